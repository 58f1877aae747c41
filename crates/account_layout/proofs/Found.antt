-- What is read is a record by concatenation.
use Rattle.std.proofs.Common.{◌≡◌, ℕ, zero, suc, ◌+◌, ◌-◌, ◌≤◌, List, [], ◌∷◌, length, Bool, true, false, cond, ltb, Result, Ok, Err, refl, sym, ap, subst, ◌∙◌, arith}
use Rattle.std.specs.Prelude.{slice_range, slice_index, IfOk}
use Rattle.std.proofs.lemmas.List.{append-nil}
use Rattle.std.proofs.lemmas.List.Edits.{length-between}
use Rattle.std.proofs.lemmas.Bool.{ltb-false}
use Rattle.le_fields.specs.Fields.{number_at, number_bytes}
use Rattle.account_layout.specs.declared.record.Record.{Record}
use Rattle.account_layout.specs.declared.record.RecordFault.{RecordFault}
use Rattle.account_layout.specs.declared.record.RecordFault.TheVariants.{HeaderCut, DataCut, DataTooLong, BadExecutable}
use Rattle.account_layout.specs.Record.{Skipped, header_bytes, HasFields}
use Rattle.account_layout.specs.Reading.{Entry, entry_at, entry_of, record_at, fields_of, Gives}
use Rattle.account_layout.proofs.Parts.{IsBytes, cut, one_byte, number_spelled, number_below}

-- where a record has no fault
pub record Sound (bytes : List ℕ) (at end : ℕ) : Type 0 where
  pub whole : at + 136 + number_at bytes (at + 8) ≤ end
  pub short : number_at bytes (at + 8) ≤ 10485760
  pub flag : slice_index bytes (at + 96) ≤ 1

chosen : {A : Type 0} (b : Bool) (x y z : A) (B : Type 0) → cond b x y ≡ z → (x ≡ z → B) → (b ≡ false → y ≡ z → B) → B
chosen true x y z B is stays goes = stays is
chosen false x y z B is stays goes = goes refl is

pub read_sound : (bytes : List ℕ) (at end : ℕ) (entry : Entry) → at ≤ end → record_at bytes at end ≡ Ok entry → Sound bytes at end × (entry_at bytes at ≡ entry)
read_sound bytes at end entry le is =
    let len = number_at bytes (at + 8) in
    let flag = slice_index bytes (at + 96) in
    let B : Type 0 = Sound bytes at end × (entry_at bytes at ≡ entry) in
    chosen (ltb (end - at) 136) (Err (HeaderCut at)) _ (Ok entry) B is (λ e. absurd cc) (λ header is.
    chosen (ltb end (at + 136 + len)) (Err (DataCut at len)) _ (Ok entry) B is (λ e. absurd cc) (λ whole is.
    chosen (ltb 10485760 len) (Err (DataTooLong len)) _ (Ok entry) B is (λ e. absurd cc) (λ short is.
    chosen (ltb 1 flag) (Err (BadExecutable at flag)) _ (Ok entry) B is (λ e. absurd cc) (λ low is.
    (record { whole = ltb-false _ _ whole; short = ltb-false _ _ short; flag = ltb-false _ _ low }, cc)))))

flag_is : (n : ℕ) → n ≤ 1 → n ≡ cond (ltb 0 n) 1 0
flag_is zero le = refl
flag_is (suc zero) le = refl
flag_is (suc (suc n)) le = absurd (omega arith)

pub entry_stands : (bytes : List ℕ) (at end : ℕ) → IsBytes bytes → end ≤ length bytes → Sound bytes at end
    → HasFields (slice_range bytes at (entry_at bytes at).end) (entry_at bytes at).key (entry_at bytes at).fields
entry_stands bytes at end fits within sound =
    let len = number_at bytes (at + 8) in
    let e = at + 136 + len in
    let whole : e ≤ length bytes = omega arith in
    let body_len : length (slice_range bytes (at + 136) e) ≡ len = length-between bytes (at + 136) e whole ∙ omega arith in
    let number : (k to : ℕ) → to ≡ k + 8 → to ≤ length bytes → slice_range bytes k to ≡ number_bytes (number_at bytes k) = λ k to is le. ap (slice_range bytes k) is ∙ number_spelled bytes k fits (omega arith) in
    let size : (k to n : ℕ) → to ≤ length bytes → to - k ≡ n → length (slice_range bytes k to) ≡ n = λ k to n le is. length-between bytes k to le ∙ is in
    let skipped : Skipped = record { version = slice_range bytes at (at + 8); padding = slice_range bytes (at + 97) (at + 104); hash = slice_range bytes (at + 104) (at + 136) } in
    let h = at + 136 in
    let header : slice_range bytes at h ≡ header_bytes skipped (entry_at bytes at).key (entry_at bytes at).fields =
    cut bytes at (at + 8) h _ _ (omega arith) (omega arith) refl
    (cut bytes (at + 8) (at + 16) h _ _ (omega arith) (omega arith) (number (at + 8) (at + 16) (omega arith) (omega arith) ∙ ap number_bytes (sym body_len))
    (cut bytes (at + 16) (at + 48) h _ _ (omega arith) (omega arith) refl
    (cut bytes (at + 48) (at + 56) h _ _ (omega arith) (omega arith) (number (at + 48) (at + 56) (omega arith) (omega arith))
    (cut bytes (at + 56) (at + 64) h _ _ (omega arith) (omega arith) (number (at + 56) (at + 64) (omega arith) (omega arith))
    (cut bytes (at + 64) (at + 96) h _ _ (omega arith) (omega arith) refl
    (cut bytes (at + 96) (at + 97) h _ _ (omega arith) (omega arith) (ap (slice_range bytes (at + 96)) (omega arith) ∙ one_byte bytes (at + 96) (omega arith) ∙ ap (λ (n : ℕ). n ∷ []) (flag_is (slice_index bytes (at + 96)) sound.flag))
    (cut bytes (at + 97) (at + 104) h _ _ (omega arith) (omega arith) refl (sym (append-nil (slice_range bytes (at + 104) h))))))))))
    in
    record {
      fits = record {
        key_len = size (at + 16) (at + 48) 32 (omega arith) (omega arith);
        lamports = number_below bytes (at + 48) fits;
        owner_len = size (at + 64) (at + 96) 32 (omega arith) (omega arith);
        rent_epoch = number_below bytes (at + 56) fits;
        most = omega (arith, body_len);
      };
      skipped = skipped;
      version_len = size at (at + 8) 8 (omega arith) (omega arith);
      padding_len = size (at + 97) (at + 104) 7 (omega arith) (omega arith);
      hash_len = size (at + 104) (at + 136) 32 (omega arith) (omega arith);
      parts = cut bytes at (at + 136) e _ _ (omega arith) (omega arith) header refl;
    }

-- a result that reading gives is a record
pub found : (result : Result Record RecordFault) (bytes : List ℕ) (at end : ℕ) → IsBytes bytes → at ≤ end → end ≤ length bytes → Gives result (record_at bytes at end)
    → IfOk result (λ r. HasFields (slice_range bytes at r.end) r.key.0 (fields_of r))
found (Err fault) bytes at end fits le within gives = tt
found (Ok r) bytes at end fits le within gives =
    let read = read_sound bytes at end (entry_of r) le gives in
    let P : Entry → Type 0 = λ entry. HasFields (slice_range bytes at entry.end) entry.key entry.fields in
    subst P read.1 (entry_stands bytes at end fits within read.0)
