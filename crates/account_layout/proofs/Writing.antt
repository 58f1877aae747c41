-- One part after another, written over zeros.
use Rattle.std.proofs.Common.{◌≡◌, ℕ, suc, ◌+◌, List, [], ◌∷◌, ◌++◌, length, drop, sym, ap, ◌∙◌, arith, append_assoc}
use Rattle.std.specs.Prelude.{replicate, slice_set}
use Rattle.std.proofs.lemmas.List.{take_at, drop_at, drop-drop, drop-replicate, set_at}
use borrow.Rule.Slice.PartMut.{put_mid}
use Rattle.le_fields.specs.Fields.{with_number, number_bytes}

past_both : (p : List ℕ) (at k n : ℕ) → length p ≡ at → drop (at + k) (p ++ replicate (k + n) 0) ≡ replicate n 0
past_both p at k n is =
    sym (drop-drop k at (p ++ replicate (k + n) 0)) ∙ ap (drop k) (drop_at p (replicate (k + n) 0) at is) ∙ drop-replicate k (k + n) 0 ∙ ap (λ (m : ℕ). replicate m 0) (omega arith)

-- a number behind what stands, before the zeros
pub next_number : (bytes p : List ℕ) (at n value : ℕ) → bytes ≡ p ++ replicate (8 + n) 0 → length p ≡ at → with_number bytes at value ≡ (p ++ number_bytes value) ++ replicate n 0
next_number bytes p at n value is len =
    ap (λ (b : List ℕ). with_number b at value) is
    ∙ (λ i. take_at p (replicate (8 + n) 0) at len i ++ number_bytes value ++ past_both p at 8 n len i)

-- a part behind what stands, before the zeros
pub next_part : (bytes p part : List ℕ) (at k n : ℕ) → bytes ≡ p ++ replicate (k + n) 0 → length p ≡ at → length part ≡ k → put_mid at k bytes part ≡ (p ++ part) ++ replicate n 0
next_part bytes p part at k n is len part_len =
    ap (λ (b : List ℕ). put_mid at k b part) is
    ∙ (λ i. take_at p (replicate (k + n) 0) at len i ++ (part ++ (drop-drop k at (p ++ replicate (k + n) 0) ∙ past_both p at k n len) i))
    ∙ sym (append_assoc p part (replicate n 0))

-- a byte behind what stands, before the zeros
pub next_byte : (bytes p : List ℕ) (at n byte : ℕ) → bytes ≡ p ++ replicate (1 + n) 0 → length p ≡ at → slice_set bytes at byte ≡ (p ++ byte ∷ []) ++ replicate n 0
next_byte bytes p at n byte is len =
    let zeros : 1 + n ≡ suc n = omega arith in
    ap (λ (b : List ℕ). slice_set b at byte) (is ∙ ap (λ (m : ℕ). p ++ replicate m 0) zeros) ∙ set_at p 0 (replicate n 0) byte at len ∙ sym (append_assoc p (byte ∷ []) (replicate n 0))

-- parts that were put one behind another
pub regrouped : (a b c d e f g h : List ℕ) → ((((((a ++ b) ++ c) ++ d) ++ e) ++ f) ++ g) ++ h ≡ a ++ (b ++ (c ++ (d ++ (e ++ (f ++ (g ++ h))))))
regrouped a b c d e f g h = simp append_assoc
