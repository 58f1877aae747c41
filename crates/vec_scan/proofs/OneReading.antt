-- An image has one list of rows.
use Rattle.std.proofs.Common.{◌≡◌, ℕ, List, [], ◌∷◌, ◌++◌, length, drop, refl, sym, ap, subst, ◌∙◌, inl, inr, arith, length-append}
use Rattle.std.proofs.lemmas.List.{append_cancel_left, drop_at, nil_from_length}
use Rattle.le_fields.specs.Fields.{rounded}
use Rattle.adb_model.specs.Account as machine
use Rattle.account_layout.specs.Record.{HasFields, account_in}
use Rattle.vec_scan.specs.Image.{Placed, IsImage}
use Rattle.vec_scan.specs.Forward.{BeginsWith, next_start}
use Rattle.vec_scan.proofs.Forwards.{ImageFrom, image_from}
use Rattle.vec_scan.proofs.Scanning.{part_some}

-- the law that no record begins another
abbrev pub OneRecord : Type 0
OneRecord = (a b rest more key key2 : List ℕ) (fields fields2 : machine.Account) → HasFields a key fields → HasFields b key2 fields2 → a ++ rest ≡ b ++ more → (a ≡ b) × (key ≡ key2) × (fields ≡ fields2)

nothing_begins : {B : Type 0} {start : ℕ} {bytes : List ℕ} {row : Placed} → bytes ≡ [] → BeginsWith start bytes row → B
nothing_begins {row = row} none b =
    let some = part_some b.part row.row.key b.is_record.0 b.is_record.1 in
    let len : 0 ≡ length (b.part ++ (b.gap ++ b.more)) = ap length (sym none ∙ b.parts) in
    absurd (omega (arith, length-append b.part (b.gap ++ b.more)))

no_rows_left : (start : ℕ) (bytes : List ℕ) (rows : List Placed) → bytes ≡ [] → ImageFrom start bytes rows → rows ≡ []
no_rows_left start bytes [] none from = refl
no_rows_left start bytes (row ∷ rows) none from = nothing_begins none from.0

both_end : (s t : ℕ) (bytes more : List ℕ) (rows others : List Placed) → bytes ≡ [] → more ≡ [] → ImageFrom s bytes rows → ImageFrom t more others → rows ≡ others
both_end s t bytes more rows others none none' from from' = no_rows_left s bytes rows none from ∙ sym (no_rows_left t more others none' from')

-- where one row ends the bytes, so does the other
both_empty : (gap more gap2 more2 : List ℕ) → gap ++ more ≡ gap2 ++ more2 → gap ≡ [] → more ≡ [] → more2 ≡ []
both_empty gap more gap2 more2 same no_gap no_more =
    let len = ap length same in
    let gap0 : length gap ≡ 0 = ap length no_gap in
    let more0 : length more ≡ 0 = ap length no_more in
    nil_from_length more2 (omega (arith, length-append gap more, length-append gap2 more2))

one_from : OneRecord → (start : ℕ) (bytes : List ℕ) (rows others : List Placed) → ImageFrom start bytes rows → ImageFrom start bytes others → rows ≡ others
one_from law start bytes [] others from from' = sym (no_rows_left start bytes others from from')
one_from law start bytes (row ∷ rows) [] from from' = no_rows_left start bytes (row ∷ rows) from' from
one_from law start bytes (row ∷ rows) (row2 ∷ others) from from' =
    let b = from.0 in
    let b2 = from'.0 in
    let one = law b.part b2.part (b.gap ++ b.more) (b2.gap ++ b2.more) row.row.key row2.row.key b.is_record.0 b2.is_record.0 b.is_record.1 b2.is_record.1 (sym b.parts ∙ b2.parts) in
    let rest : b.gap ++ b.more ≡ b2.gap ++ b2.more = append_cancel_left b2.part (b.gap ++ b.more) (b2.gap ++ b2.more) (ap (λ (xs : List ℕ). xs ++ (b.gap ++ b.more)) (sym one.0) ∙ sym b.parts ∙ b2.parts) in
    let same_row : row ≡ row2 = (λ i. record {
      offset = (b.offset ∙ sym b2.offset) i;
      row = record { key = one.1 i; account = (b.is_record.2 ∙ ap account_in one.2 ∙ sym b2.is_record.2) i };
    }) in
    let part_len : length b.part ≡ length b2.part = ap length one.0 in
    let same_rows : rows ≡ others = elim from.1 [
      | inl fills ↦ elim from'.1 [
        | inl fills2 ↦
            let gap_len : length b.gap ≡ length b2.gap = (let widths = ap rounded part_len in omega arith) in
            let more : b.more ≡ b2.more = sym (drop_at b.gap b.more (length b.gap) refl) ∙ ap (drop (length b.gap)) rest ∙ drop_at b2.gap b2.more (length b.gap) (sym gap_len) in
            let next : next_start b ≡ next_start b2 = omega arith in
            one_from law (next_start b2) b2.more rows others
            (subst (λ (xs : List ℕ). ImageFrom (next_start b2) xs rows) more (subst (λ (n : ℕ). ImageFrom n b.more rows) next from.2)) from'.2
        | inr ends2 ↦ both_end (next_start b) (next_start b2) b.more b2.more rows others (both_empty b2.gap b2.more b.gap b.more (sym rest) ends2.0 ends2.1) ends2.1 from.2 from'.2
      ]
      | inr ends ↦ both_end (next_start b) (next_start b2) b.more b2.more rows others ends.1 (both_empty b.gap b.more b2.gap b2.more rest ends.0 ends.1) from.2 from'.2
    ] in
    (λ i. same_row i ∷ same_rows i)

pub one_image : OneRecord → (bytes : List ℕ) (rows others : List Placed) → IsImage bytes rows → IsImage bytes others → rows ≡ others
one_image law bytes rows others is is' = one_from law 0 bytes rows others (image_from bytes rows is) (image_from bytes others is')
