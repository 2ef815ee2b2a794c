use Rattle.std.proofs.Common.{rules, ◌≡◌, ◌∙◌, sym, ap, refl, ℕ, ◌<◌, ◌^◌, Some, None, Bool, true, false, decimal, arith}
use Rattle.std.specs.Bool.{then_some}
use Rattle.std.specs.Result.{result_ok}
use Rattle.std.proofs.lemmas.Fmt.{parse-decimal}
use Rattle.std.proofs.lemmas.Slice.Eq.{bytes_eq-Decides}
use Rattle.command_words.proofs.seed.canonical.Goals as goal

-- a number is answered where it was tested
answered : (test : Bool) (number seed : ℕ) → then_some test number ≡ Some seed → (test ≡ true) × (number ≡ seed)
answered true number seed e = (refl, cc)
answered false number seed e = absurd cc

fits : {number seed : ℕ} → number < 2 ^ 32 → number ≡ seed → seed < 2 ^ 32
fits below is = omega (arith, is, below)

pub returns-in_err-number : goal.returns-in_err-number
returns-in_err-number c =
    record {
      spelled =
          λ seed. (
            λ e. absurd cc,
            λ is. let read = parse-decimal 32 seed c.args.word.now c.parse.result is.1 (omega (arith, is.1)) is.0 c.parse.ensures.value.0 in
                let wrong : None ≡ Some seed = c.in_err-number.ensures.value ∙ ap result_ok read in absurd cc,
          );
    }

pub returns : goal.returns
returns c =
    let same = bytes_eq-Decides c.format.result.now c.args.word.now in
    record {
      spelled =
          λ seed. (
            λ e. let is = answered c.eq.result c.in_ok-number.number seed (sym c.then_some.ensures ∙ e) in
                let word = same.0 (sym c.eq.ensures ∙ is.0) in
                (sym word ∙ c.format.ensures.text ∙ ap decimal is.1, fits (search rules) is.1),
            λ is. let read = parse-decimal 32 seed c.args.word.now c.parse.result is.1 (omega (arith, is.1)) is.0 c.parse.ensures.value.0 in
                let found : Some c.in_ok-number.number ≡ Some seed = c.in_ok-number.ensures.value ∙ ap result_ok read in
                let number : c.in_ok-number.number ≡ seed = cc in
                let tested : c.eq.result ≡ true = c.eq.ensures ∙ same.1 (c.format.ensures.text ∙ ap decimal number ∙ sym is.0) in
                c.then_some.ensures ∙ (λ i. then_some (tested i) (number i)),
          );
    }
