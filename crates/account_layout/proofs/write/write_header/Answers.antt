use Rattle.std.proofs.Common.{◌≡◌, ℕ, ◌+◌, List, [], ◌∷◌, ◌++◌, length, Bool, true, false, cond, refl, ap, ◌∙◌, rules}
use Rattle.std.specs.Prelude.{replicate}
use mir.Val.{bool_byte}
use borrow.Rule.Slice.PartMut.{put_mid}
use Rattle.std.proofs.lemmas.List.{length-append}
use Rattle.le_fields.specs.Fields.{number_bytes}
use Rattle.account_layout.proofs.Writing.{next_number, next_part, next_byte, regrouped}
use Rattle.account_layout.proofs.write.write_header.Goals as goal

flag_byte : (e : Bool) → bool_byte e ≡ cond e 1 0
flag_byte true = refl
flag_byte false = refl

pub returns-clause-writable : goal.returns-clause-writable
returns-clause-writable c =
    record {
      fits = record {
        key_len = search rules;
        lamports = rw (← c.head-head.ensures.lamports) (search rules);
        owner_len = search rules;
        rent_epoch = rw (← c.head-head.ensures.rent_epoch) (search rules);
        most = rw (← c.data.ensures.data) c.data.ensures.most;
      };
      buried = c.head-head.ensures.tomb;
    }

pub returns-clause-written : goal.returns-clause-written
returns-clause-written c =
    let account = c.args.account.now in
    let len = number_bytes (length account.bytes) in
    let key = c.args.key.now.0 in
    let lamports = number_bytes account.lamports in
    let epoch = number_bytes account.rent_epoch in
    let key_len : length key ≡ 32 = search rules in
    let owner_len : length account.owner ≡ 32 = search rules in
    let zeros : c.fill.new.self ≡ replicate 136 0 = search rules in
    let p1 : List ℕ = replicate 8 0 in
    let p2 : List ℕ = p1 ++ len in
    let p3 : List ℕ = p2 ++ key in
    let p4 : List ℕ = p3 ++ lamports in
    let p5 : List ℕ = p4 ++ epoch in
    let p6 : List ℕ = p5 ++ account.owner in
    let l3 : length p3 ≡ 48 = length-append p2 key ∙ ap (λ (n : ℕ). 16 + n) key_len in
    let l4 : length p4 ≡ 56 = length-append p3 lamports ∙ ap (λ (n : ℕ). n + 8) l3 in
    let l5 : length p5 ≡ 64 = length-append p4 epoch ∙ ap (λ (n : ℕ). n + 8) l4 in
    let l6 : length p6 ≡ 96 = length-append p5 account.owner ∙ (λ i. l5 i + owner_len i) in
    let flag : List ℕ = cond account.executable 1 0 ∷ [] in
    let data_len : length c.data.result.now ≡ length account.bytes = ap length c.data.ensures.data in
    let s2 : c.put_u64.new.bytes ≡ p2 ++ replicate 120 0 =
    c.put_u64.ensures.written ∙ next_number c.fill.new.self p1 8 120 (length c.data.result.now) zeros refl ∙ ap (λ (n : ℕ). (p1 ++ number_bytes n) ++ replicate 120 0) data_len in
    let s3 : put_mid 16 32 c.put_u64.new.bytes c.copy_from_slice.new.self ≡ p3 ++ replicate 88 0 =
    ap (put_mid 16 32 c.put_u64.new.bytes) c.copy_from_slice.ensures.after ∙ next_part c.put_u64.new.bytes p2 key 16 32 88 s2 refl key_len in
    let s4 : c.put_u64-2.new.bytes ≡ p4 ++ replicate 80 0 =
    c.put_u64-2.ensures.written ∙ next_number _ p3 48 80 c.head-head.result.lamports s3 l3 ∙ ap (λ (n : ℕ). (p3 ++ number_bytes n) ++ replicate 80 0) c.head-head.ensures.lamports in
    let s5 : c.put_u64-3.new.bytes ≡ p5 ++ replicate 72 0 =
    c.put_u64-3.ensures.written ∙ next_number _ p4 56 72 c.head-head.result.rent_epoch s4 l4 ∙ ap (λ (n : ℕ). (p4 ++ number_bytes n) ++ replicate 72 0) c.head-head.ensures.rent_epoch in
    let s6 : put_mid 64 32 c.put_u64-3.new.bytes c.copy_from_slice-2.new.self ≡ p6 ++ replicate 40 0 =
    ap (put_mid 64 32 c.put_u64-3.new.bytes) (c.copy_from_slice-2.ensures.after ∙ c.head-head.ensures.owner) ∙ next_part c.put_u64-3.new.bytes p5 account.owner 64 32 40 s5 l5 owner_len in
    let byte : c.from.result ≡ cond account.executable 1 0 = c.from.ensures ∙ flag_byte c.head-head.result.executable ∙ ap (λ (e : Bool). cond e 1 0) c.head-head.ensures.executable in
    next_byte _ p6 96 39 c.from.result s6 l6 ∙ ap (λ (b : ℕ). (p6 ++ b ∷ []) ++ replicate 39 0) byte
    ∙ regrouped p1 len key lamports epoch account.owner flag (replicate 39 0)
