-- A record by concatenation is what is read.
use Rattle.std.proofs.Common.{◌≡◌, ℕ, ◌+◌, ◌-◌, ◌≤◌, List, [], ◌∷◌, ◌++◌, length, Bool, true, false, cond, ltb, Result, Ok, Err, refl, sym, ap, ◌∙◌, arith, length-append}
use Rattle.std.specs.Prelude.{slice_range, slice_index, IsOkAnd}
use Rattle.std.specs.Int.{w64, from_le_bytes}
use Rattle.std.proofs.lemmas.List.{append-nil}
use Rattle.std.proofs.lemmas.List.Edits.{length-between}
use Rattle.std.proofs.lemmas.Bool.{le-ltb}
use Rattle.le_fields.specs.Fields.{number_at, number_bytes}
use Rattle.adb_model.specs.Account as machine
use Rattle.account_layout.specs.declared.record.Record.{Record}
use Rattle.account_layout.specs.declared.record.RecordFault.{RecordFault}
use Rattle.account_layout.specs.Record.{Skipped, header_bytes, HasFields}
use Rattle.account_layout.specs.Reading.{Entry, entry_of, record_at, Gives}
use Rattle.account_layout.proofs.Parts.{within, first, past, byte_in, number_in}

-- the fields stand at the places of a record that starts here
pub record Stand (bytes : List ℕ) (at : ℕ) (key : List ℕ) (fields : machine.Account) : Type 0 where
  pub len : number_at bytes (at + 8) ≡ length fields.bytes
  pub key_is : slice_range bytes (at + 16) (at + 48) ≡ key
  pub lamports : number_at bytes (at + 48) ≡ fields.lamports
  pub rent_epoch : number_at bytes (at + 56) ≡ fields.rent_epoch
  pub owner : slice_range bytes (at + 64) (at + 96) ≡ fields.owner
  pub flag : slice_range bytes (at + 96) (at + 97) ≡ cond fields.executable 1 0 ∷ []
  pub body : slice_range bytes (at + 136) (at + 136 + length fields.bytes) ≡ fields.bytes

-- the length of a header
pub header_len : (skipped : Skipped) (key : List ℕ) (fields : machine.Account) → length skipped.version ≡ 8 → length skipped.padding ≡ 7 → length skipped.hash ≡ 32 → length key ≡ 32 → length fields.owner ≡ 32
    → length (header_bytes skipped key fields) ≡ 136
header_len s key fields version padding hash key_len owner =
    let end = ap length (append-nil s.hash) in
    let rest7 = s.padding ++ (s.hash ++ []) in
    let p7 = length-append s.padding (s.hash ++ []) in
    let rest6 = cond fields.executable 1 0 ∷ rest7 in
    let p6 = length-append fields.owner rest6 in
    let rest3 = number_bytes fields.lamports ++ (number_bytes fields.rent_epoch ++ (fields.owner ++ rest6)) in
    let p3 = length-append key rest3 in
    let p1 = length-append s.version (number_bytes (length fields.bytes) ++ (key ++ rest3)) in
    omega (arith, end, p7, p6, p3, p1)

-- the length of a record
pub record_len : (b key : List ℕ) (fields : machine.Account) → HasFields b key fields → length b ≡ 136 + length fields.bytes
record_len b key fields h =
    ap length h.parts ∙ length-append (header_bytes h.skipped key fields) fields.bytes
    ∙ ap (λ (n : ℕ). n + length fields.bytes) (header_len h.skipped key fields h.version_len h.padding_len h.hash_len h.fits.key_len h.fits.owner_len)

-- a range that the first of two lists has
in_first : (x rest : List ℕ) (n i j : ℕ) → length x ≡ n → j ≤ n → slice_range (x ++ rest) i j ≡ slice_range x i j
in_first x rest n i j is le =
    let from : i ≡ 0 + i = omega arith in
    let to : j ≡ 0 + j = omega arith in
    (λ k. slice_range (x ++ rest) (from k) (to k)) ∙ sym (within (x ++ rest) 0 n i j (omega arith)) ∙ ap (λ (r : List ℕ). slice_range r i j) (first x rest n is)

-- the fields of a record stand at their places in its bytes
pub parts_stand : (b key : List ℕ) (fields : machine.Account) → HasFields b key fields → Stand b 0 key fields
parts_stand b key fields h =
    let s = h.skipped in
    let lens = h.fits in
    let n = length fields.bytes in
    let rest7 = s.padding ++ (s.hash ++ []) in
    let rest6 = (cond fields.executable 1 0 ∷ []) ++ rest7 in
    let rest5 = fields.owner ++ rest6 in
    let rest4 = number_bytes fields.rent_epoch ++ rest5 in
    let rest3 = number_bytes fields.lamports ++ rest4 in
    let rest2 = key ++ rest3 in
    let rest1 = number_bytes n ++ rest2 in
    let header = header_bytes s key fields in
    let len : length header ≡ 136 = header_len s key fields h.version_len h.padding_len h.hash_len lens.key_len lens.owner_len in
    let at0 : (i j : ℕ) → j ≤ 136 → slice_range b i j ≡ slice_range header i j = λ i j le. ap (λ (r : List ℕ). slice_range r i j) h.parts ∙ in_first header fields.bytes 136 i j len le in
    let at1 : (i j : ℕ) → slice_range header (8 + i) (8 + j) ≡ slice_range rest1 i j = λ i j. past s.version rest1 8 i j h.version_len in
    let at2 : (i j : ℕ) → slice_range header (8 + (8 + i)) (8 + (8 + j)) ≡ slice_range rest2 i j = λ i j. at1 (8 + i) (8 + j) ∙ past (number_bytes n) rest2 8 i j refl in
    let at3 : (i j : ℕ) → slice_range header (8 + (8 + (32 + i))) (8 + (8 + (32 + j))) ≡ slice_range rest3 i j = λ i j. at2 (32 + i) (32 + j) ∙ past key rest3 32 i j lens.key_len in
    let at4 : (i j : ℕ) → slice_range header (8 + (8 + (32 + (8 + i)))) (8 + (8 + (32 + (8 + j)))) ≡ slice_range rest4 i j = λ i j. at3 (8 + i) (8 + j) ∙ past (number_bytes fields.lamports) rest4 8 i j refl in
    let at5 : (i j : ℕ) → slice_range header (8 + (8 + (32 + (8 + (8 + i))))) (8 + (8 + (32 + (8 + (8 + j))))) ≡ slice_range rest5 i j = λ i j. at4 (8 + i) (8 + j) ∙ past (number_bytes fields.rent_epoch) rest5 8 i j refl in
    let at6 : (i j : ℕ) → slice_range header (8 + (8 + (32 + (8 + (8 + (32 + i)))))) (8 + (8 + (32 + (8 + (8 + (32 + j)))))) ≡ slice_range rest6 i j = λ i j. at5 (32 + i) (32 + j) ∙ past fields.owner rest6 32 i j lens.owner_len in
    record {
      len = number_in b 8 n (omega (arith, lens.most)) (at0 8 16 (omega arith) ∙ at1 0 8 ∙ first (number_bytes n) rest2 8 refl);
      key_is = at0 16 48 (omega arith) ∙ at2 0 32 ∙ first key rest3 32 lens.key_len;
      lamports = number_in b 48 fields.lamports lens.lamports (at0 48 56 (omega arith) ∙ at3 0 8 ∙ first (number_bytes fields.lamports) rest4 8 refl);
      rent_epoch = number_in b 56 fields.rent_epoch lens.rent_epoch (at0 56 64 (omega arith) ∙ at4 0 8 ∙ first (number_bytes fields.rent_epoch) rest5 8 refl);
      owner = at0 64 96 (omega arith) ∙ at5 0 32 ∙ first fields.owner rest6 32 lens.owner_len;
      flag = at0 96 97 (omega arith) ∙ at6 0 1 ∙ first (cond fields.executable 1 0 ∷ []) rest7 1 refl;
      body =
          ap (λ (r : List ℕ). slice_range r 136 (136 + n)) h.parts ∙ ap (λ (k : ℕ). slice_range (header ++ fields.bytes) k (136 + n)) refl
          ∙ past header fields.bytes 136 0 n len ∙ ap (λ (r : List ℕ). slice_range r 0 n) (sym (append-nil fields.bytes)) ∙ first fields.bytes [] n refl;
    }

-- what stands in a range stands so in the whole
pub front_stands : (bytes : List ℕ) (at to : ℕ) (key : List ℕ) (fields : machine.Account) → at + 136 + length fields.bytes ≤ to → Stand (slice_range bytes at to) 0 key fields → Stand bytes at key fields
front_stands bytes at to key fields le s =
    let n = length fields.bytes in
    let part = slice_range bytes at to in
    let range : (k l : ℕ) → k + l ≤ 136 + n → slice_range bytes (at + k) (at + k + l) ≡ slice_range part k (k + l) = λ k l fits.
    ap (slice_range bytes (at + k)) (omega arith) ∙ sym (within bytes at to k (k + l) (omega arith)) in
    let number : (k : ℕ) → k + 8 ≤ 136 → number_at bytes (at + k) ≡ number_at part k = λ k fits. ap (λ (r : List ℕ). from_le_bytes w64 r) (range k 8 (omega arith)) in
    record {
      len = number 8 (omega arith) ∙ s.len;
      key_is = ap (slice_range bytes (at + 16)) (omega arith) ∙ range 16 32 (omega arith) ∙ s.key_is;
      lamports = number 48 (omega arith) ∙ s.lamports;
      rent_epoch = number 56 (omega arith) ∙ s.rent_epoch;
      owner = ap (slice_range bytes (at + 64)) (omega arith) ∙ range 64 32 (omega arith) ∙ s.owner;
      flag = ap (slice_range bytes (at + 96)) (omega arith) ∙ range 96 1 (omega arith) ∙ s.flag;
      body = range 136 n (omega arith) ∙ s.body;
    }

passes : {A : Type 0} (b : Bool) (x y z : A) → b ≡ false → y ≡ z → cond b x y ≡ z
passes true x y z stays is = absurd cc
passes false x y z stays is = is

flag_low : (e : Bool) → cond e 1 0 ≤ 1
flag_low true = omega arith
flag_low false = omega arith

flag_says : (e : Bool) → ltb 0 (cond e 1 0) ≡ e
flag_says true = refl
flag_says false = refl

-- fields that stand at their places are read
pub stand_reads : (bytes : List ℕ) (at end : ℕ) (key : List ℕ) (fields : machine.Account) → length fields.bytes ≤ 10485760 → at + 136 + length fields.bytes ≤ end → Stand bytes at key fields
    → record_at bytes at end ≡ Ok (record { key = key; fields = fields; end = at + 136 + length fields.bytes })
stand_reads bytes at end key fields most le s =
    let n = length fields.bytes in
    let flag : slice_index bytes (at + 96) ≡ cond fields.executable 1 0 = byte_in bytes (at + 96) (cond fields.executable 1 0) (ap (slice_range bytes (at + 96)) (omega arith) ∙ s.flag) in
    let stop : at + 136 + number_at bytes (at + 8) ≡ at + 136 + n = omega (arith, s.len) in
    let low = flag_low fields.executable in
    let len = s.len in
    passes (ltb (end - at) 136) _ _ _ (le-ltb (end - at) 136 (omega arith))
    (passes (ltb end (at + 136 + number_at bytes (at + 8))) _ _ _ (le-ltb end (at + 136 + number_at bytes (at + 8)) (omega arith))
    (passes (ltb 10485760 (number_at bytes (at + 8))) _ _ _ (le-ltb 10485760 (number_at bytes (at + 8)) (omega arith))
    (passes (ltb 1 (slice_index bytes (at + 96))) _ _ _ (le-ltb 1 (slice_index bytes (at + 96)) (omega arith))
    (λ i. Ok (record {
      key = s.key_is i;
      fields = record {
        lamports = s.lamports i;
        owner = s.owner i;
        executable = (ap (λ (b : ℕ). ltb 0 b) flag ∙ flag_says fields.executable) i;
        rent_epoch = s.rent_epoch i;
        bytes = (ap (slice_range bytes (at + 136)) stop ∙ s.body) i;
      };
      end = stop i;
    })))))

-- a result that reading gives is the record that is there
pub known : (result : Result Record RecordFault) (bytes : List ℕ) (at end to : ℕ) (key : List ℕ) (fields : machine.Account) → Gives result (record_at bytes at end)
    → to ≤ end → end ≤ length bytes → HasFields (slice_range bytes at to) key fields → IsOkAnd result (λ r. entry_of r ≡ record { key = key; fields = fields; end = to })
known result bytes at end to key fields gives le within h =
    let n = length fields.bytes in
    let len = length-between bytes at to (omega arith) in
    let len' = record_len (slice_range bytes at to) key fields h in
    let to-is : at + 136 + n ≡ to = omega arith in
    let reads = stand_reads bytes at end key fields h.fits.most (omega arith) (front_stands bytes at to key fields (omega arith) (parts_stand (slice_range bytes at to) key fields h)) in
    settled result (record_at bytes at end) _ gives (reads ∙ ap (λ (e : ℕ). Ok (record { key = key; fields = fields; end = e })) to-is)
  where
    settled : (result : Result Record RecordFault) (read : Result Entry RecordFault) (entry : Entry) → Gives result read → read ≡ Ok entry → IsOkAnd result (λ r. entry_of r ≡ entry)
    settled (Ok r) read entry gives is = cc
    settled (Err fault) read entry gives is = absurd cc
