-- Pieces: the lines, put together from their pieces.
use Rattle.std.proofs.Common.{◌≡◌, ◌∙◌, ℕ, List, [], ◌∷◌, ◌++◌, map, refl, sym, ap, append_assoc}
use Rattle.std.specs.Prelude.{codes, decimal, Option}
use Rattle.std.specs.List.{join_with_byte, zip}
use Rattle.std.proofs.lemmas.List.{append-nil}
use Rattle.cs_outside.specs.Device.{appended, WritesPrefix}
use Rattle.cs_outside.proofs.Reached.{Reached, reached_start, reached_more, reached_prefix, reached_end}
use Rattle.run_segments.specs.declared.segments.Segment.{Segment}
use Rattle.scenario_text.specs.Words.{Word}
use Rattle.segment_text.specs.Cells.{columns, state_word, cookie_of, is_forced, pid_of, group_of}
use Rattle.segment_text.specs.Table.{tabbed}
use Rattle.segment_text.specs.Json.{quoted, truth_value, number_or_null, member, object_of, object_line}

-- a piece that is told is put after what is there
pub put_told : (old new piece told all : List ℕ) → old ≡ all → piece ≡ told → new ≡ old ++ piece → new ≡ all ++ told
put_told old new piece told all so_far is then =
    then ∙ ap (λ (bytes : List ℕ). bytes ++ piece) so_far ∙ ap (λ (bytes : List ℕ). all ++ bytes) is

pub row_pieces : (from to sibling state cookie pending forced pid group : Word) →
    (((((((((((((((((from ++ codes "\t") ++ to) ++ codes "\t") ++ sibling) ++ codes "\t") ++ state) ++ codes "\t") ++ cookie) ++ codes "\t")
    ++ pending) ++ codes "\t") ++ forced) ++ codes "\t") ++ pid) ++ codes "\t") ++ group) ++ codes "\n")
    ≡ tabbed (from ∷ to ∷ sibling ∷ state ∷ cookie ∷ pending ∷ forced ∷ pid ∷ group ∷ [])
row_pieces from to sibling state cookie pending forced pid group = simp append_assoc

-- the members of an object, and what follows them
nine_members : (a b c d e f g h i end : List ℕ) →
    join_with_byte 44 (a ∷ b ∷ c ∷ d ∷ e ∷ f ∷ g ∷ h ∷ i ∷ []) ++ end
    ≡ a ++ 44 ∷ (b ++ 44 ∷ (c ++ 44 ∷ (d ++ 44 ∷ (e ++ 44 ∷ (f ++ 44 ∷ (g ++ 44 ∷ (h ++ 44 ∷ (i ++ end))))))))
nine_members a b c d e f g h i end = simp append_assoc

ten_pieces : (a b c d e f g h i j end : List ℕ) →
    (((((((((a ++ b) ++ c) ++ d) ++ e) ++ f) ++ g) ++ h) ++ i) ++ j) ++ end ≡ a ++ (b ++ (c ++ (d ++ (e ++ (f ++ (g ++ (h ++ (i ++ (j ++ end)))))))))
ten_pieces a b c d e f g h i j end = simp append_assoc

nine_pieces : (a b c d e f g h i : List ℕ) → (((((((a ++ b) ++ c) ++ d) ++ e) ++ f) ++ g) ++ h) ++ i ≡ a ++ (b ++ (c ++ (d ++ (e ++ (f ++ (g ++ (h ++ i)))))))
nine_pieces a b c d e f g h i = simp append_assoc

-- the two pieces in which an object is written
abbrev pub front : Word → Word → Word → Word → Word → List ℕ
front from to sibling state cookie =
    ((((((((codes "{\"from\":" ++ from) ++ codes ",\"to\":") ++ to) ++ codes ",\"sibling\":") ++ sibling) ++ codes ",\"state\":\"") ++ state)
    ++ codes "\",\"cookie\":") ++ cookie

abbrev pub back : Word → Word → Word → Word → List ℕ
back pending forced pid group =
    (((((((codes ",\"pending\":" ++ pending) ++ codes ",\"forced\":") ++ forced) ++ codes ",\"pid\":") ++ pid) ++ codes ",\"group\":") ++ group) ++ codes "}\n"

pub object_pieces : (from to sibling state cookie pending forced pid group : Word) →
    object_of (from ∷ to ∷ sibling ∷ quoted state ∷ cookie ∷ pending ∷ forced ∷ pid ∷ group ∷ []) ++ 10 ∷ []
    ≡ front from to sibling state cookie ++ back pending forced pid group
object_pieces from to sibling state cookie pending forced pid group =
    let members = map member (zip columns (from ∷ to ∷ sibling ∷ quoted state ∷ cookie ∷ pending ∷ forced ∷ pid ∷ group ∷ [])) in
    let until_state = λ (rest : List ℕ). codes "{\"from\":" ++ (from ++ (codes ",\"to\":" ++ (to ++ (codes ",\"sibling\":" ++ (sibling ++ (codes ",\"state\":\"" ++ rest)))))) in
    let last = codes ",\"pending\":" ++ (pending ++ (codes ",\"forced\":" ++ (forced ++ (codes ",\"pid\":" ++ (pid ++ (codes ",\"group\":" ++ (group ++ codes "}\n"))))))) in
    append_assoc (codes "{" ++ join_with_byte 44 members) (codes "}") (10 ∷ [])
    ∙ ap (λ (rest : List ℕ). codes "{" ++ rest) (nine_members (member (codes "from", from)) (member (codes "to", to)) (member (codes "sibling", sibling)) (member (codes "state", quoted state))
    (member (codes "cookie", cookie)) (member (codes "pending", pending)) (member (codes "forced", forced)) (member (codes "pid", pid)) (member (codes "group", group)) (codes "}\n"))
    ∙ ap until_state (append_assoc state (codes "\"") (codes ",\"cookie\":" ++ (cookie ++ last)))
    ∙ ap (λ (rest : List ℕ). until_state (state ++ (codes "\",\"cookie\":" ++ (cookie ++ rest))))
    (sym (nine_pieces (codes ",\"pending\":") pending (codes ",\"forced\":") forced (codes ",\"pid\":") pid (codes ",\"group\":") group (codes "}\n")))
    ∙ sym (ten_pieces (codes "{\"from\":") from (codes ",\"to\":") to (codes ",\"sibling\":") sibling (codes ",\"state\":\"") state (codes "\",\"cookie\":") cookie
    (back pending forced pid group))

-- both go out, or a prefix of them
module _ (segment : Segment) (before : Option (List ℕ)) where
  abbrev front_of : List ℕ
  front_of = front (decimal segment.from) (decimal segment.to) (decimal segment.cpu) (state_word segment.doing) (number_or_null (cookie_of segment.doing))

  abbrev back_of : List ℕ
  back_of = back (truth_value segment.pending) (truth_value (is_forced segment.doing)) (number_or_null (pid_of segment.pid)) (number_or_null (group_of segment.group))

  is_both : object_line segment ≡ front_of ++ back_of
  is_both =
      object_pieces (decimal segment.from) (decimal segment.to) (decimal segment.cpu) (state_word segment.doing) (number_or_null (cookie_of segment.doing))
      (truth_value segment.pending) (truth_value (is_forced segment.doing)) (number_or_null (pid_of segment.pid)) (number_or_null (group_of segment.group))

  nothing_out : Reached before (object_line segment) (object_line segment) before
  nothing_out = reached_start before (object_line segment) (object_line segment) refl

  pub front_prefix : (bytes : List ℕ) (now : Option (List ℕ)) → bytes ≡ front_of → WritesPrefix before bytes now → WritesPrefix before (object_line segment) now
  front_prefix bytes now is sent = reached_prefix before (object_line segment) (object_line segment) front_of back_of bytes before now nothing_out is_both is sent

  front_out : (bytes : List ℕ) (mid : Option (List ℕ)) → bytes ≡ front_of → mid ≡ appended before bytes → Reached before (object_line segment) back_of mid
  front_out bytes mid is sent = reached_more before (object_line segment) (object_line segment) front_of back_of bytes before mid nothing_out is_both is sent

  pub both_out : (first second : List ℕ) (mid now : Option (List ℕ)) → first ≡ front_of → mid ≡ appended before first → second ≡ back_of → now ≡ appended mid second →
      now ≡ appended before (object_line segment)
  both_out first second mid now is sent is_back then =
      reached_end before (object_line segment) [] now
      (reached_more before (object_line segment) back_of back_of [] second mid now (front_out first mid is sent) (sym (append-nil back_of)) is_back then) refl

  pub both_prefix : (first second : List ℕ) (mid now : Option (List ℕ)) → first ≡ front_of → mid ≡ appended before first → second ≡ back_of → WritesPrefix mid second now →
      WritesPrefix before (object_line segment) now
  both_prefix first second mid now is sent is_back then =
      reached_prefix before (object_line segment) back_of back_of [] second mid now (front_out first mid is sent) (sym (append-nil back_of)) is_back then
