-- A record has one reading, and what is written is read.
use Rattle.std.proofs.Common.{◌≡◌, ℕ, ◌+◌, ◌-◌, ◌≤◌, List, [], ◌++◌, length, take, Bool, true, false, cond, eqb, Result, Ok, refl, sym, ap, subst, ◌∙◌, arith, append_assoc, length-append}
use Rattle.std.specs.Prelude.{slice_range, replicate}
use Rattle.std.proofs.lemmas.List.{append_cancel_left, take_at, length-replicate}
use Rattle.std.proofs.lemmas.Bool.{eqb-true}
use Rattle.adb_model.specs.Account as machine
use Rattle.account_layout.specs.declared.record.RecordFault.{RecordFault}
use Rattle.account_layout.specs.Record.{Fits, HasFields, IsRecord, record_bytes, account_in}
use Rattle.account_layout.specs.Reading.{Entry, entry_at, record_at}
use Rattle.account_layout.specs.Written.{IsWritable, written_record, zeroed}
use Rattle.account_layout.proofs.Parts.{first, past}
use Rattle.account_layout.proofs.Found.{read_sound}
use Rattle.account_layout.proofs.Known.{Stand, parts_stand, front_stands, record_len, stand_reads}

abbrev read_as : List ℕ → machine.Account → ℕ → Result Entry RecordFault
read_as key fields end = Ok (record { key = key; fields = fields; end = end })

-- a record between other bytes is read
pub between_reads : (front b rest key : List ℕ) (fields : machine.Account) (end : ℕ) → HasFields b key fields → length front + length b ≤ end
    → record_at (front ++ (b ++ rest)) (length front) end ≡ Ok (record { key = key; fields = fields; end = length front + length b })
between_reads front b rest key fields end h le =
    let bytes = front ++ (b ++ rest) in
    let at = length front in
    let len = record_len b key fields h in
    let from : at + 0 ≡ at = omega arith in
    let part : slice_range bytes at (at + length b) ≡ b =
    (λ i. slice_range bytes (sym from i) (at + length b)) ∙ past front (b ++ rest) at 0 (length b) refl ∙ first b rest (length b) refl in
    let stand : Stand (slice_range bytes at (at + length b)) 0 key fields = subst (λ (xs : List ℕ). Stand xs 0 key fields) (sym part) (parts_stand b key fields h) in
    let stop : at + 136 + length fields.bytes ≡ at + length b = omega arith in
    stand_reads bytes at end key fields h.fits.most (omega arith) (front_stands bytes at (at + length b) key fields (omega arith) stand)
    ∙ ap (λ (e : ℕ). read_as key fields e) stop

-- the same, by the places of its fields
pub between_places : (front b rest key : List ℕ) (fields : machine.Account) → HasFields b key fields → entry_at (front ++ (b ++ rest)) (length front) ≡ record { key = key; fields = fields; end = length front + length b }
between_places front b rest key fields h =
    let end = length front + length b in
    (read_sound (front ++ (b ++ rest)) (length front) end (record { key = key; fields = fields; end = end }) (omega arith) (between_reads front b rest key fields end h (omega arith))).1

ok_is : (x y : Entry) → (let r : Result Entry RecordFault = Ok x in r) ≡ Ok y → x ≡ y
ok_is x y e = cc

pub one_reading : (a b rest more key key2 : List ℕ) (fields fields2 : machine.Account) → HasFields a key fields → HasFields b key2 fields2 → a ++ rest ≡ b ++ more
    → (a ≡ b) × (key ≡ key2) × (fields ≡ fields2)
one_reading a b rest more key key2 fields fields2 h h2 same =
    let end = length a + length b in
    let reads = between_reads [] a rest key fields end h (omega arith) in
    let reads2 = between_reads [] b more key2 fields2 end h2 (omega arith) in
    let entries = ok_is _ _ (sym reads ∙ ap (λ (xs : List ℕ). record_at xs 0 end) same ∙ reads2) in
    let fields-is : fields ≡ fields2 = ap (λ (e : Entry). e.fields) entries in
    let len : length b ≡ length a = record_len b key2 fields2 h2 ∙ ap (λ (f : machine.Account). 136 + length f.bytes) (sym fields-is) ∙ sym (record_len a key fields h) in
    (sym (take_at a rest (length a) refl) ∙ ap (take (length a)) same ∙ take_at b more (length a) len, ap (λ (e : Entry). e.key) entries, fields-is)

-- the written form is a record
pub written_fields : (key : List ℕ) (account : machine.Account) → Fits key account → HasFields (record_bytes zeroed key account) key account
written_fields key account fits = record { fits = fits; skipped = zeroed; version_len = refl; padding_len = refl; hash_len = refl; parts = refl }

account_is : (account : machine.Account) → (account.lamports ≡ 0 → account ≡ machine.tomb) → account ≡ account_in account
account_is account buried = pick (eqb account.lamports 0) refl
  where
    pick : (b : Bool) → eqb account.lamports 0 ≡ b → account ≡ cond b machine.tomb account
    pick true is = buried (eqb-true account.lamports 0 is)
    pick false is = refl

pub written_is_record : (key : List ℕ) (account : machine.Account) → IsWritable key account → IsRecord (record_bytes zeroed key account) key account
written_is_record key account w = (account, written_fields key account w.fits, account_is account w.buried)

pub read_again : (front rest key : List ℕ) (account : machine.Account) (end : ℕ) → IsWritable key account → length front + 136 + length account.bytes ≤ end
    → record_at (front ++ (written_record key account ++ rest)) (length front) end ≡ Ok (record { key = key; fields = account; end = length front + 136 + length account.bytes })
read_again front rest key account end w le =
    let b = record_bytes zeroed key account in
    let zeros : List ℕ = replicate (machine.size account - (136 + length account.bytes)) 0 in
    let h = written_fields key account w.fits in
    let len = record_len b key account h in
    let stop : length front + length b ≡ length front + 136 + length account.bytes = omega arith in
    ap (λ (xs : List ℕ). record_at (front ++ xs) (length front) end) (append_assoc b zeros rest) ∙ between_reads front b (zeros ++ rest) key account end h (omega arith)
    ∙ ap (λ (e : ℕ). read_as key account e) stop

pub written_len : (key : List ℕ) (account : machine.Account) → IsWritable key account → length (written_record key account) ≡ machine.size account
written_len key account w =
    let b = record_bytes zeroed key account in
    let n = machine.size account - (136 + length account.bytes) in
    let len = record_len b key account (written_fields key account w.fits) in
    let le : 136 + length account.bytes ≤ machine.size account = omega arith in
    length-append b (replicate n 0) ∙ omega (arith, length-replicate {A = ℕ} n 0)

pub one_form : (key key2 rest more : List ℕ) (account account2 : machine.Account) → IsWritable key account → IsWritable key2 account2
    → written_record key account ++ rest ≡ written_record key2 account2 ++ more → (key ≡ key2) × (account ≡ account2) × (rest ≡ more)
one_form key key2 rest more account account2 w w2 same =
    let b = record_bytes zeroed key account in
    let b2 = record_bytes zeroed key2 account2 in
    let zeros : List ℕ = replicate (machine.size account - (136 + length account.bytes)) 0 in
    let zeros2 : List ℕ = replicate (machine.size account2 - (136 + length account2.bytes)) 0 in
    let one = one_reading b b2 (zeros ++ rest) (zeros2 ++ more) key key2 account account2 (written_fields key account w.fits) (written_fields key2 account2 w2.fits)
    (sym (append_assoc b zeros rest) ∙ same ∙ append_assoc b2 zeros2 more) in
    (one.1, one.2, append_cancel_left (written_record key account) rest more (same ∙ sym (λ i. written_record (one.1 i) (one.2 i) ++ more)))
