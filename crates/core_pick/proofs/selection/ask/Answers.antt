use Rattle.std.proofs.Common.{◌≡◌, ◌∙◌, suc, ◌+◌, ◌-◌, ◌*◌, ◌<◌, ◌≤◌, [], ◌∷◌, ◌++◌, ap, sym, subst, inl, inr, length, arith}
use Rattle.std.specs.List.{range_with_len}
use Rattle.std.proofs.lemmas.Bool.{cases_lt, cases_eq}
use Rattle.std.proofs.Math.ListN.{length-set}
use Rattle.std.proofs.lemmas.List.{length-map}
use Rattle.cs_types.specs.Selection.{cookie_of}
use Rattle.core_lanes.specs.Lanes.{lane_state, room_of}
use Rattle.core_pick.specs.declared.lead.First.{First}
use Rattle.core_pick.specs.Choice.{lead_of}
use Rattle.core_pick.proofs.Asked.{all_but_own}
use Rattle.core_pick.proofs.Leads.{lead_of-all}
use Rattle.core_pick.proofs.Noted.{noted_here, noted_all}
use Rattle.core_pick.proofs.selection.ask.Goals as goal

pub bounds-firsts-own : goal.bounds-firsts-own
bounds-firsts-own g c = omega (arith, c.requires.may.at.cpu, c.requires.many)

pub overflow_cast-count : goal.overflow_cast-count
overflow_cast-count g c = omega (arith, c.len-count.ensures, c.args.core.now.few)

pub overflow_add-own : goal.overflow_add-own
overflow_add-own g c = omega (arith, c.requires.may.at.cpu, c.args.core.now.few)

pub ask_from-behind-requires-clause-part : goal.ask_from-behind-requires-clause-part
ask_from-behind-requires-clause-part g c = record {
  order = omega (arith, c.len-count.ensures, c.requires.may.at.cpu);
  within = omega (arith, c.len-count.ensures);
  may = λ cpu below. record { at = record { cpu = below; agree = c.requires.may.at.agree }; low = c.requires.may.low };
}

pub ask_from-lead-requires-clause-part : goal.ask_from-lead-requires-clause-part
ask_from-lead-requires-clause-part g c = record {
  order = omega arith;
  within = omega (arith, c.requires.may.at.cpu);
  may = λ cpu below. record { at = record { cpu = below; agree = c.requires.may.at.agree }; low = c.requires.may.low };
}

pub returns-clause-counted : goal.returns-clause-counted
returns-clause-counted g c longest longer =
    let own = c.args.own in
    let most = g.Q.SiblingQueue.most_compared longest in
    let whole : own - 0 ≡ own = omega arith in
    let count : c.len-count.result ≡ length c.args.core.now.lanes.items = c.len-count.ensures in
    all_but_own own (length c.args.core.now.lanes.items) c.args.comparisons.now c.ask_from-behind.new.comparisons c.ask_from-lead.new.comparisons most c.requires.may.at.cpu
    (subst (λ n. c.ask_from-behind.new.comparisons ≤ c.args.comparisons.now + (n - (own + 1)) * most) count (c.ask_from-behind.ensures.counted longest longer))
    (subst (λ n. c.ask_from-lead.new.comparisons ≤ c.ask_from-behind.new.comparisons + n * most) whole (c.ask_from-lead.ensures.counted longest longer))

pub returns-clause-asks : goal.returns-clause-asks
returns-clause-asks g c = record {
  each = λ beside.
      let own = c.args.own in
      let room = room_of beside (c.args.core.now, c.args.table.now) in
      let lanes = c.args.core.now.lanes.items in
      let many : length c.ask_from-lead.new.firsts ≡ length room.siblings = omega (arith, c.ask_from-lead.auto.firsts, c.ask_from-behind.auto.firsts, c.requires.many, length-set c.args.firsts.now c.args.own c.args.first.now.choice, length-map lanes lane_state) in
      let count : c.len-count.result ≡ length room.siblings = c.len-count.ensures ∙ sym (length-map lanes lane_state) in
      let inside : own < length c.args.firsts.now = omega (arith, c.requires.may.at.cpu, c.requires.many) in
      let first = ap (λ (first : First). first.choice) (c.requires.first beside) in
      noted_all room c.ask_from-lead.new.firsts many (λ cpu below. elim (cases_lt cpu own) [
        | inl before ↦ c.ask_from-lead.ensures.asks.noted beside cpu (omega arith) before
        | inr from ↦ c.ask_from-lead.ensures.asks.kept beside cpu (elim (cases_eq cpu own) [
          | inl here ↦ c.ask_from-behind.ensures.asks.kept beside cpu (noted_here room c.args.firsts.now own c.args.first.now.choice inside first cpu here)
          | inr differs ↦ c.ask_from-behind.ensures.asks.noted beside cpu (omega (arith, from, differs)) (omega (arith, below, count))
        ])
      ]);
  lead = λ beside.
      let own = c.args.own in
      let room = room_of beside (c.args.core.now, c.args.table.now) in
      let whole : own - 0 ≡ own = omega arith in
      let count : c.len-count.result ≡ length room.siblings = c.len-count.ensures ∙ sym (length-map c.args.core.now.lanes.items lane_state) in
      let from : suc (c.len-count.result - (own + 1)) ≡ length room.siblings - own = omega (arith, count, c.requires.may.at.cpu, length-map c.args.core.now.lanes.items lane_state) in
      let offer = c.lead_alone-offer.ensures c.args.table.now c.requires.first beside in
      ap (λ (first : First). first.choice.cookie) (c.ask_from-lead.ensures.asks.lead beside (own ∷ range_with_len (own + 1) (c.len-count.result - (own + 1))) (c.ask_from-behind.ensures.asks.lead beside (own ∷ []) offer))
      ∙ ap cookie_of ((λ i. lead_of room (range_with_len own (from i) ++ range_with_len 0 (whole i))) ∙ lead_of-all room own);
}
