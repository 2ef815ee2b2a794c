use Rattle.std.proofs.Common.{sym}
use Rattle.cs_types.specs.declared.task.Policy.TheVariants.{Deadline, Fifo, Rr, Fair}
use Rattle.scenario_text.specs.Grammar.{is_number, is_signed, value}
use Rattle.scenario_text.specs.Reading.{signed_value}
use Rattle.scenario_text.proofs.Policies.{made}
use Rattle.scenario_text.proofs.task.parse_policy.Goals as goal

pub returns-in-Some : goal.returns-in-Some
returns-in-Some c =
    let digits = c.in-Some.relative.now in
    rw (sym c.if-is_word.ensures, c.in-Some.ensures.cases.0, sym c.in-Some.ensures.cases.1)
    (made c.parse_number.result c.map.result (is_number 1 1000000000 digits) (value digits) Deadline c.parse_number.ensures.spelled c.map.ensures.cases)

pub returns-in-Some-strip_prefix : goal.returns-in-Some-strip_prefix
returns-in-Some-strip_prefix c =
    let found = c.in-Some-strip_prefix in
    let digits = found.priority.now in
    rw (sym c.if-is_word.ensures, c.in_default.ensures.cases, found.ensures.cases.0, sym found.ensures.cases.1)
    (made c.parse_u8.result c.map-in-Some-strip_prefix.result (is_number 1 99 digits) (value digits) Fifo c.parse_u8.ensures c.map-in-Some-strip_prefix.ensures.cases)

pub returns-in-Some-strip_prefix-2 : goal.returns-in-Some-strip_prefix-2
returns-in-Some-strip_prefix-2 c =
    let found = c.in-Some-strip_prefix-2 in
    let digits = found.priority.now in
    rw (sym c.if-is_word.ensures, c.in_default.ensures.cases, c.in_default-strip_prefix.ensures.cases, found.ensures.cases.0, sym found.ensures.cases.1)
    (made c.parse_u8-in-Some-strip_prefix-2.result c.map-in-Some-strip_prefix-2.result (is_number 1 99 digits) (value digits) Rr c.parse_u8-in-Some-strip_prefix-2.ensures c.map-in-Some-strip_prefix-2.ensures.cases)

pub returns-in-Some-strip_prefix-3 : goal.returns-in-Some-strip_prefix-3
returns-in-Some-strip_prefix-3 c =
    let found = c.in-Some-strip_prefix-3 in
    let digits = found.nice.now in
    rw (sym c.if-is_word.ensures, c.in_default.ensures.cases, c.in_default-strip_prefix.ensures.cases, c.in_default-strip_prefix-2.ensures.cases, found.ensures.cases.0, sym found.ensures.cases.1)
    (made c.parse_nice.result c.map-in-Some-strip_prefix-3.result (is_signed 20 19 digits) (signed_value digits) Fair c.parse_nice.ensures c.map-in-Some-strip_prefix-3.ensures.cases)
