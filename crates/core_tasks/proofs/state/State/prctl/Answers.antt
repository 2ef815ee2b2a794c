use Rattle.std.proofs.Common.{◌∙◌, sym, refl, arith}
use Rattle.std.proofs.Math.Nat.{le-add_right}
use Rattle.prctl_core.specs.Plan.{IsRoomOf}
use Rattle.cookie_refs.proofs.Agreements.{Agree-put}
use Rattle.core_tasks.specs.State.{room_with}
use Rattle.core_tasks.proofs.Settings.{makes_call, makes_refusal}
use Rattle.core_tasks.proofs.state.State.prctl.Goals as goal

pub returns-in-Go-clause-makes : goal.returns-in-Go-clause-makes
returns-in-Go-clause-makes g c = record {
  step = λ intervals.
      let room = room_with intervals c.args.self.now in
      let is : IsRoomOf room c.args.self.now.tasks c.args.self.now.refs c.args.self.now.guards.guards c.siblings_where.result c.args.self.now.user_top =
      record { tasks = refl; siblings = c.requires.siblings intervals ∙ sym c.siblings_where.ensures; user_top = refl; cookie_limit = refl; next_cookie = refl; guards = refl } in
      makes_call intervals c.args.self.now _ c.set_cookies.new.self _ c.args.pid c.args.ask c.in-Go.decision
      (c.in-Go.ensures.answer room is) (c.in-Go.ensures.sets room is)
      (λ i. record room { cookie_limit = c.in-Go.ensures.limit i; next_cookie = c.in-Go.ensures.serial room is i; guards = c.in-Go.ensures.asked room is i }) refl
      c.set_cookies.ensures.sets
      (λ i. record (room_with intervals c.set_cookies.new.self) { cookie_limit = c.put.ensures.limit i; next_cookie = c.put.ensures.next i }) refl
      c.in-Go.ensures.planned;
  stays =
      record {
        sound = λ sound.
            let set = c.set_cookies.ensures.sets.stays.sound (record {
              agree = sound.agree;
              limit = sound.limit;
              user_top = sound.user_top;
              pids = sound.pids;
              ended = sound.ended;
              refs = c.in-Go.ensures.held;
            }) in
            record {
              agree = set.agree;
              limit = set.limit;
              user_top = set.user_top;
              pids = set.pids;
              ended = set.ended;
              refs = Agree-put c.set_cookies.new.self.refs c.put.new.self c.set_cookies.new.self.tasks.tasks c.in-Go.decision.cookie c.put.ensures.counts set.refs;
            };
        siblings = c.set_cookies.ensures.sets.stays.siblings;
        ends = c.set_cookies.ensures.sets.stays.ends;
      };
}

pub returns-in-Answer-clause-makes : goal.returns-in-Answer-clause-makes
returns-in-Answer-clause-makes g c = record {
  step = λ intervals.
      let room = room_with intervals c.args.self.now in
      let is : IsRoomOf room c.args.self.now.tasks c.args.self.now.refs c.args.self.now.guards.guards c.siblings_where.result c.args.self.now.user_top =
      record { tasks = refl; siblings = c.requires.siblings intervals ∙ sym c.siblings_where.ensures; user_top = refl; cookie_limit = refl; next_cookie = refl; guards = refl } in
      makes_refusal intervals c.args.self.now _ c.args.pid c.args.ask c.in-Answer.reply c.in-Answer.ensures.planned (c.in-Answer.ensures.answer room is)
      (λ i. record room { cookie_limit = c.in-Answer.ensures.limit i; next_cookie = c.in-Answer.ensures.serial room is i; guards = c.in-Answer.ensures.asked room is i }) refl;
  stays = record {
    sound = λ sound. record {
      agree = sound.agree;
      limit = sound.limit;
      user_top = sound.user_top;
      pids = sound.pids;
      ended = sound.ended;
      refs = c.in-Answer.ensures.held;
    };
    siblings = refl;
    ends = refl;
  };
}

pub set_cookies-requires : goal.set_cookies-requires
set_cookies-requires g c =
    let sound = c.requires.sound in
    record {
      sound = record { agree = sound.agree; limit = sound.limit; user_top = sound.user_top; pids = sound.pids; ended = sound.ended; refs = c.in-Go.ensures.held };
      own = c.requires.own;
      touches = omega (arith, c.requires.touches);
    }

pub returns-in-Go-clause-counted : goal.returns-in-Go-clause-counted
returns-in-Go-clause-counted g c = c.set_cookies.ensures.counted

pub plan-planned-requires-clause-agree : goal.plan-planned-requires-clause-agree
plan-planned-requires-clause-agree g c = c.requires.sound.refs

pub plan-planned-requires-clause-user_top : goal.plan-planned-requires-clause-user_top
plan-planned-requires-clause-user_top g c = c.requires.sound.user_top

pub plan-planned-requires-clause-serial : goal.plan-planned-requires-clause-serial
plan-planned-requires-clause-serial g c = c.requires.serial

pub plan-planned-requires-clause-asked : goal.plan-planned-requires-clause-asked
plan-planned-requires-clause-asked g c = c.requires.asked

pub returns-in-Answer-clause-counted : goal.returns-in-Answer-clause-counted
returns-in-Answer-clause-counted g c = le-add_right c.args.comparisons.now _
