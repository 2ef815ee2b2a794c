use Rattle.std.proofs.Common.{◌∙◌, sym, ap, subst}
use Rattle.cs_types.specs.Prctl.{asked_by_call, with_used}
use Rattle.cs_types.specs.Guards.{GuardList, asked_each}
use Rattle.prctl_core.specs.Plan.{NamesMembers, asked_about_members_of, IsCall, IsPlanned, SetsIn, reply_of}
use Rattle.prctl_core.proofs.Commands.{names_alike, after_target, after_all, get_settles, get_planned, get_sets, gift_planned, create_planned, create_plan, share_settles, from_settles, share_sets, from_sets}
use Rattle.prctl_core.proofs.planning.plan.Goals as goal

pub returns-in-Err-clause-answer : goal.returns-in-Err-clause-answer
returns-in-Err-clause-answer g c room is = (c.in-Err.ensures.admits room is.tasks is.siblings is.guards).answer

pub returns-in-Err-clause-sets : goal.returns-in-Err-clause-sets
returns-in-Err-clause-sets g c room is = tt

pub returns-in-Err-clause-asked : goal.returns-in-Err-clause-asked
returns-in-Err-clause-asked g c room is = c.in-Err.ensures.asked room is.tasks is.siblings is.guards

pub returns-in-Err-clause-serial : goal.returns-in-Err-clause-serial
returns-in-Err-clause-serial g c room is =
    sym is.next_cookie ∙ ap (λ made. (with_used room made (asked_by_call room c.args.caller c.args.ask.now)).next_cookie) (sym (c.in-Err.ensures.admits room is.tasks is.siblings is.guards).makes)

pub returns-in-Get-clause-answer : goal.returns-in-Get-clause-answer
returns-in-Get-clause-answer g c room is =
    let call : IsCall room c.args.caller c.args.ask.now c.in-Ok.called = c.in-Ok.ensures.admits room is.tasks is.siblings is.guards in
    (get_settles room c.args.caller c.args.ask.now c.in-Ok.called call c.args.user_top is.user_top c.in-Get.is).answer
    ∙ ap reply_of (sym c.get.ensures)

pub returns-in-Get-clause-sets : goal.returns-in-Get-clause-sets
returns-in-Get-clause-sets g c room is =
    subst (SetsIn room c.args.caller c.args.ask.now) (sym c.get.ensures)
    (get_sets room c.args.caller c.args.ask.now c.in-Ok.called c.args.ask.now.addr c.args.user_top)

pub returns-in-Get-clause-serial : goal.returns-in-Get-clause-serial
returns-in-Get-clause-serial g c room is =
    let call : IsCall room c.args.caller c.args.ask.now c.in-Ok.called = c.in-Ok.ensures.admits room is.tasks is.siblings is.guards in
    sym is.next_cookie
    ∙ ap (λ made. (with_used room made (asked_by_call room c.args.caller c.args.ask.now)).next_cookie)
    (sym (get_settles room c.args.caller c.args.ask.now c.in-Ok.called call c.args.user_top is.user_top c.in-Get.is).makes)

pub returns-in-Get-clause-asked : goal.returns-in-Get-clause-asked
returns-in-Get-clause-asked g c room is =
    let call : IsCall room c.args.caller c.args.ask.now c.in-Ok.called = c.in-Ok.ensures.admits room is.tasks is.siblings is.guards in
    c.in-Ok.ensures.asked room is.tasks is.siblings is.guards
    ∙ after_target room c.args.caller c.args.ask.now c.in-Ok.called call
    (get_settles room c.args.caller c.args.ask.now c.in-Ok.called call c.args.user_top is.user_top c.in-Get.is).asks

pub returns-in-Get-clause-planned : goal.returns-in-Get-clause-planned
returns-in-Get-clause-planned g c =
    subst IsPlanned (sym c.get.ensures) (get_planned c.in-Ok.called c.args.ask.now.addr c.args.user_top)

pub returns-in-Create-clause-answer : goal.returns-in-Create-clause-answer
returns-in-Create-clause-answer g c room is =
    (create_plan room c.args.caller c.args.ask.now c.in-Ok.called (c.in-Ok.ensures.admits room is.tasks is.siblings is.guards) c.args.table.now c.args.refs.now c.create.new.refs c.args.guards.now.guards c.args.online c.args.user_top c.create.result is
    c.in-Create.is _ _ (c.in-Ok.ensures.asked room is.tasks is.siblings is.guards) c.create.ensures.full c.create.ensures.made).answer

pub returns-in-Create-clause-sets : goal.returns-in-Create-clause-sets
returns-in-Create-clause-sets g c room is =
    (create_plan room c.args.caller c.args.ask.now c.in-Ok.called (c.in-Ok.ensures.admits room is.tasks is.siblings is.guards) c.args.table.now c.args.refs.now c.create.new.refs c.args.guards.now.guards c.args.online c.args.user_top c.create.result is
    c.in-Create.is _ _ (c.in-Ok.ensures.asked room is.tasks is.siblings is.guards) c.create.ensures.full c.create.ensures.made).sets

pub returns-in-Create-clause-serial : goal.returns-in-Create-clause-serial
returns-in-Create-clause-serial g c room is =
    (create_plan room c.args.caller c.args.ask.now c.in-Ok.called (c.in-Ok.ensures.admits room is.tasks is.siblings is.guards) c.args.table.now c.args.refs.now c.create.new.refs c.args.guards.now.guards c.args.online c.args.user_top c.create.result is
    c.in-Create.is _ _ (c.in-Ok.ensures.asked room is.tasks is.siblings is.guards) c.create.ensures.full c.create.ensures.made).serial

pub returns-in-Create-clause-asked : goal.returns-in-Create-clause-asked
returns-in-Create-clause-asked g c room is =
    (create_plan room c.args.caller c.args.ask.now c.in-Ok.called (c.in-Ok.ensures.admits room is.tasks is.siblings is.guards) c.args.table.now c.args.refs.now c.create.new.refs c.args.guards.now.guards c.args.online c.args.user_top c.create.result is
    c.in-Create.is _ _ (c.in-Ok.ensures.asked room is.tasks is.siblings is.guards) c.create.ensures.full c.create.ensures.made).asked

pub returns-in-Create-clause-planned : goal.returns-in-Create-clause-planned
returns-in-Create-clause-planned g c =
    create_planned c.args.table.now.tasks c.args.refs.now c.create.new.refs _ _ c.in-Ok.called c.create.result c.create.ensures.full c.create.ensures.made

pub returns-in-ShareTo-clause-answer : goal.returns-in-ShareTo-clause-answer
returns-in-ShareTo-clause-answer g c room is =
    let call : IsCall room c.args.caller c.args.ask.now c.in-Ok.called = c.in-Ok.ensures.admits room is.tasks is.siblings is.guards in
    (share_settles room c.args.caller c.args.ask.now c.in-Ok.called call c.args.table.now.tasks c.in-Ok.called.caller.now.cookie c.members-to.result is.tasks c.in-ShareTo.is (names_alike room c.args.caller c.args.ask.now c.in-Ok.called call c.args.table.now.tasks c.members-to.result
    (subst (λ (guards : GuardList). NamesMembers guards c.args.table.now.tasks c.in-Ok.called c.members-to.result) (c.in-Ok.ensures.asked room is.tasks is.siblings is.guards) c.members-to.ensures.named))).answer
    ∙ ap reply_of (sym c.share.ensures.plan)

pub returns-in-ShareTo-clause-sets : goal.returns-in-ShareTo-clause-sets
returns-in-ShareTo-clause-sets g c room is =
    let call : IsCall room c.args.caller c.args.ask.now c.in-Ok.called = c.in-Ok.ensures.admits room is.tasks is.siblings is.guards in
    subst (SetsIn room c.args.caller c.args.ask.now) (sym c.share.ensures.plan)
    (share_sets room c.args.caller c.args.ask.now c.in-Ok.called call c.args.table.now.tasks c.members-to.result is.tasks c.in-ShareTo.is (names_alike room c.args.caller c.args.ask.now c.in-Ok.called call c.args.table.now.tasks c.members-to.result
    (subst (λ (guards : GuardList). NamesMembers guards c.args.table.now.tasks c.in-Ok.called c.members-to.result) (c.in-Ok.ensures.asked room is.tasks is.siblings is.guards) c.members-to.ensures.named)))

pub returns-in-ShareTo-clause-serial : goal.returns-in-ShareTo-clause-serial
returns-in-ShareTo-clause-serial g c room is =
    let call : IsCall room c.args.caller c.args.ask.now c.in-Ok.called = c.in-Ok.ensures.admits room is.tasks is.siblings is.guards in
    c.share.ensures.next ∙ sym is.next_cookie
    ∙ ap (λ made. (with_used room made (asked_by_call room c.args.caller c.args.ask.now)).next_cookie)
    (sym (share_settles room c.args.caller c.args.ask.now c.in-Ok.called call c.args.table.now.tasks c.in-Ok.called.caller.now.cookie c.members-to.result is.tasks c.in-ShareTo.is (names_alike room c.args.caller c.args.ask.now c.in-Ok.called call c.args.table.now.tasks c.members-to.result
    (subst (λ (guards : GuardList). NamesMembers guards c.args.table.now.tasks c.in-Ok.called c.members-to.result) (c.in-Ok.ensures.asked room is.tasks is.siblings is.guards) c.members-to.ensures.named))).makes)

pub returns-in-ShareTo-clause-asked : goal.returns-in-ShareTo-clause-asked
returns-in-ShareTo-clause-asked g c room is =
    let call : IsCall room c.args.caller c.args.ask.now c.in-Ok.called = c.in-Ok.ensures.admits room is.tasks is.siblings is.guards in
    let first = c.in-Ok.ensures.asked room is.tasks is.siblings is.guards in
    c.members-to.ensures.asked
    ∙ ap (λ (guards : GuardList). asked_each guards (asked_about_members_of guards c.args.table.now.tasks c.in-Ok.called)) first
    ∙ after_all room c.args.caller c.args.ask.now c.in-Ok.called call c.args.table.now.tasks is.tasks
    (share_settles room c.args.caller c.args.ask.now c.in-Ok.called call c.args.table.now.tasks c.in-Ok.called.caller.now.cookie c.members-to.result is.tasks c.in-ShareTo.is (names_alike room c.args.caller c.args.ask.now c.in-Ok.called call c.args.table.now.tasks c.members-to.result
    (subst (λ (guards : GuardList). NamesMembers guards c.args.table.now.tasks c.in-Ok.called c.members-to.result) (c.in-Ok.ensures.asked room is.tasks is.siblings is.guards) c.members-to.ensures.named))).asks

pub returns-in-ShareTo-clause-planned : goal.returns-in-ShareTo-clause-planned
returns-in-ShareTo-clause-planned g c =
    subst IsPlanned (sym c.share.ensures.plan) (gift_planned c.in-Ok.called.caller.now.cookie c.members-to.result)

pub returns-in-ShareFrom-clause-answer : goal.returns-in-ShareFrom-clause-answer
returns-in-ShareFrom-clause-answer g c room is =
    let call : IsCall room c.args.caller c.args.ask.now c.in-Ok.called = c.in-Ok.ensures.admits room is.tasks is.siblings is.guards in
    (from_settles room c.args.caller c.args.ask.now c.in-Ok.called call c.in-Ok.called.target.now.cookie c.itself.result c.in-ShareFrom.is c.itself.ensures).answer
    ∙ ap reply_of (sym c.share-in-ShareFrom.ensures.plan)

pub returns-in-ShareFrom-clause-sets : goal.returns-in-ShareFrom-clause-sets
returns-in-ShareFrom-clause-sets g c room is =
    let call : IsCall room c.args.caller c.args.ask.now c.in-Ok.called = c.in-Ok.ensures.admits room is.tasks is.siblings is.guards in
    subst (SetsIn room c.args.caller c.args.ask.now) (sym c.share-in-ShareFrom.ensures.plan)
    (from_sets room c.args.caller c.args.ask.now c.in-Ok.called call c.args.table.now c.itself.result is.tasks c.in-Ok.ensures.there c.in-ShareFrom.is c.itself.ensures)

pub returns-in-ShareFrom-clause-serial : goal.returns-in-ShareFrom-clause-serial
returns-in-ShareFrom-clause-serial g c room is =
    let call : IsCall room c.args.caller c.args.ask.now c.in-Ok.called = c.in-Ok.ensures.admits room is.tasks is.siblings is.guards in
    c.share-in-ShareFrom.ensures.next ∙ sym is.next_cookie
    ∙ ap (λ made. (with_used room made (asked_by_call room c.args.caller c.args.ask.now)).next_cookie)
    (sym (from_settles room c.args.caller c.args.ask.now c.in-Ok.called call c.in-Ok.called.target.now.cookie c.itself.result c.in-ShareFrom.is c.itself.ensures).makes)

pub returns-in-ShareFrom-clause-asked : goal.returns-in-ShareFrom-clause-asked
returns-in-ShareFrom-clause-asked g c room is =
    let call : IsCall room c.args.caller c.args.ask.now c.in-Ok.called = c.in-Ok.ensures.admits room is.tasks is.siblings is.guards in
    c.in-Ok.ensures.asked room is.tasks is.siblings is.guards
    ∙ after_target room c.args.caller c.args.ask.now c.in-Ok.called call
    (from_settles room c.args.caller c.args.ask.now c.in-Ok.called call c.in-Ok.called.target.now.cookie c.itself.result c.in-ShareFrom.is c.itself.ensures).asks

pub returns-in-ShareFrom-clause-planned : goal.returns-in-ShareFrom-clause-planned
returns-in-ShareFrom-clause-planned g c =
    subst IsPlanned (sym c.share-in-ShareFrom.ensures.plan) (gift_planned c.in-Ok.called.target.now.cookie c.itself.result)
