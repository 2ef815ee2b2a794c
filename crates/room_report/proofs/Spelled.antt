-- Spelled: an output spells one history only.
use Rattle.std.proofs.Common.{◌≡◌, ℕ, List, [], ◌∷◌, ◌++◌, drop, refl, sym, ◌∙◌, append_assoc, All}
use Rattle.std.specs.List.{AllByRecursion, flat_map}
use Rattle.std.proofs.lemmas.List.Elements.{recursion_from_All}
use Rattle.cs_types.specs.Room.{Opening}
use Rattle.cs_types.specs.History.{History, moment_of}
use Rattle.scenario_text.specs.Text.{entry_text}
use Rattle.scenario_text.specs.Entry.{IsEntry}
use Rattle.scenario_text.proofs.Entries.{one_entry, not_report}
use Rattle.room_report.specs.Report.{report_text, output_text}

abbrev entries_text : History → List ℕ
entries_text history = flat_map entry_text history

-- entries before two texts that begin as `report` does
one_list : (a b : History) (rest more : List ℕ) → AllByRecursion IsEntry a → AllByRecursion IsEntry b →
    entries_text a ++ 114 ∷ rest ≡ entries_text b ++ 114 ∷ more → a ≡ b
one_list [] [] rest more is other same = refl
one_list [] (y ∷ b) rest more is other same =
    absurd (not_report y (entries_text b ++ 114 ∷ more) rest (sym (append_assoc (entry_text y) (entries_text b) (114 ∷ more)) ∙ sym same))
one_list (x ∷ a) [] rest more is other same =
    absurd (not_report x (entries_text a ++ 114 ∷ rest) more (sym (append_assoc (entry_text x) (entries_text a) (114 ∷ rest)) ∙ same))
one_list (x ∷ a) (y ∷ b) rest more is other same =
    let one = one_entry x y (entries_text a ++ 114 ∷ rest) (entries_text b ++ 114 ∷ more) is.0 other.0
    (sym (append_assoc (entry_text x) (entries_text a) (114 ∷ rest)) ∙ same ∙ append_assoc (entry_text y) (entries_text b) (114 ∷ more)) in
    let first : x ≡ y = one.0 in
    let later : a ≡ b = one_list a b rest more is.1 other.1 one.1 in
    cc

pub one_history : (opening other : Opening) (history played : History) → All IsEntry history → All IsEntry played →
    output_text opening history ≡ output_text other played → history ≡ played
one_history opening other history played is made same =
    one_list history played (drop 1 (report_text (moment_of opening history))) (drop 1 (report_text (moment_of other played)))
    (recursion_from_All IsEntry history is) (recursion_from_All IsEntry played made) same
