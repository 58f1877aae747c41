-- What a comparison with the key in the middle shows, and what a step leaves to search.
use Rattle.std.proofs.Common.{◌≡◌, ℕ, suc, ◌+◌, ◌-◌, ◌*◌, ◌/◌, ◌^◌, ◌<◌, ◌≤◌, List, length, get_or, refl, sym, ap, ◌∙◌, inl, inr, arith}
use Rattle.std.specs.List.{AllWithin}
use Rattle.std.specs.declared.cmp.Ordering.TheVariants.{Less, Equal, Greater}
use Rattle.std.proofs.lemmas.Bool.{cases_lt}
use Rattle.std.proofs.lemmas.List.{get_or_default}
use Rattle.std.specs.declared.cmp.Ordering.{Ordering}
use Rattle.std.proofs.Math.Nat.{mul-le-mul_left, mul_assoc, pow-suc}
use Rattle.accounts_index.specs.declared.entry.Entry.{Entry}
use Rattle.accounts_index.specs.Index.{key_cmp}
use Rattle.accounts_index.specs.Inside.{KeysRise}
use Rattle.accounts_index.specs.Places.{IsAt}
use Rattle.accounts_index.proofs.Keys.{equal_same, less_trans, less_turned, greater_turned}

module _ (es : List Entry) (rise : KeysRise es) (key : List ℕ) (m : ℕ) (in_range : m < length es) where
  abbrev Is : Ordering → Type 0
  Is o = (d : Entry) → key_cmp (get_or es m d).key.0 key ≡ o

  -- an entry that was read there tells it
  pub compared : (e : Entry) (o : Ordering) → key_cmp (get_or es m e).key.0 key ≡ o → Is o
  compared e o is d = ap (λ (x : Entry). key_cmp x.key.0 key) (get_or_default es m d e in_range) ∙ is

  -- the key in the middle is lower
  pub lower_upto : Is Less → AllWithin (λ e. key_cmp e.key.0 key ≡ Less) es 0 (m + 1)
  lower_upto less k d lo hi = elim (cases_lt k m) [
    | inl below ↦ less_trans (get_or es k d).key.0 (get_or es m d).key.0 key (rise k m d below in_range) (less d)
    | inr not_below ↦ let same : k ≡ m = omega arith in ap (λ n. key_cmp (get_or es n d).key.0 key) same ∙ less d
  ]

  -- the key in the middle is higher
  pub higher_from : Is Greater → AllWithin (λ e. key_cmp e.key.0 key ≡ Greater) es m (length es)
  higher_from greater k d lo hi = elim (cases_lt m k) [
    | inl above ↦ less_turned key (get_or es k d).key.0 (less_trans key (get_or es m d).key.0 (get_or es k d).key.0 (greater_turned (get_or es m d).key.0 key (greater d)) (rise m k d above hi))
    | inr not_above ↦ let same : k ≡ m = omega arith in ap (λ n. key_cmp (get_or es n d).key.0 key) same ∙ greater d
  ]

  -- the key in the middle is the key
  pub found_there : Is Equal → IsAt es key m
  found_there equal =
      let here : (d : Entry) → (get_or es m d).key.0 ≡ key = λ d. equal_same (get_or es m d).key.0 key (equal d) in
      record {
        in_range = in_range;
        has_key = here;
        lower_before = λ k d lo hi. ap (key_cmp (get_or es k d).key.0) (sym (here d)) ∙ rise k m d hi in_range;
        higher_after = λ k d lo hi. less_turned key (get_or es k d).key.0 (ap (λ q. key_cmp q (get_or es k d).key.0) (sym (here d)) ∙ rise m k d (omega arith) hi);
      }

-- a step doubles p and halves what is left to search
pub halved : (p left rest n : ℕ) → p * left ≤ n → 2 * rest ≤ left → (p * 2) * rest ≤ n
halved p left rest n fits half = rw (mul_assoc p 2 rest) (omega (arith, mul-le-mul_left p half))

pub doubled : (p left n : ℕ) → p * left ≤ n → 0 < left → p * 2 ≤ 2 * n + 1
doubled p left n fits some = let le : 1 ≤ left = omega arith in omega (arith, mul-le-mul_left p le)

pub next_power : (now start : ℕ) → start ≤ now → 2 ^ (now + 1 - start) ≡ 2 ^ (now - start) * 2
next_power now start le = let e : now + 1 - start ≡ suc (now - start) = omega arith in rw (e, pow-suc) refl

-- the middle of what is left, and how much is left on either side
pub middle_within : (low high : ℕ) → low < high → (low ≤ low + (high - low) / 2) × (low + (high - low) / 2 < high)
middle_within low high lt = let half : 2 * ((high - low) / 2) ≤ high - low = omega arith in (omega arith, omega arith)

pub upper_half : (low high : ℕ) → low < high → 2 * (high - (low + (high - low) / 2 + 1)) ≤ high - low
upper_half low high lt = omega arith

pub lower_half : (low high : ℕ) → low < high → 2 * (low + (high - low) / 2 - low) ≤ high - low
lower_half low high lt = omega arith
