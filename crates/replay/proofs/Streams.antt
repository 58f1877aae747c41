-- Bytes that a sink took one after another, and fronts of them.
use Rattle.std.proofs.Common.{◌≡◌, ℕ, ◌+◌, ◌<◌, ◌≤◌, List, [], ◌++◌, length, take, Option, sym, subst, ◌∙◌, ◌⊎◌, inl, inr, arith}
use Rattle.std.proofs.lemmas.Bool.{cases_order}
use Rattle.std.proofs.lemmas.List.{take_all, take-append-le}
use Rattle.std.specs.Io.KnownBytes.{Appends}
use Rattle.std.proofs.KnownBytes.{Appends-trans, Appends-nil}
use Rattle.std.proofs.Math.Seq.{take-append-add, take-append_seam}
use Rattle.stream_io.specs.Stream.{AppendsFront}

pub appends_as : (a b : Option (List ℕ)) (x y : List ℕ) → x ≡ y → Appends a b x → Appends a b y
appends_as a b x y e h = subst (λ (l : List ℕ). Appends a b l) e h

pub front_then : (a b c : Option (List ℕ)) (x y : List ℕ) → Appends a b x → AppendsFront b c y → AppendsFront a c (x ++ y)
front_then a b c x y h (count, k) =
    (length x + count, appends_as a c (x ++ take count y) (take (length x + count) (x ++ y)) (sym (take-append-add x y count)) (Appends-trans a b c x (take count y) h k))

-- nothing is a front of anything
pub front_none : (a : Option (List ℕ)) (x : List ℕ) → AppendsFront a a x
front_none a x = (0, Appends-nil a)

-- a front of the first bytes is one of them and more
pub front_of_more : (a b : Option (List ℕ)) (x y : List ℕ) → AppendsFront a b x → AppendsFront a b (x ++ y)
front_of_more a b x y (count, h) = by (cases_order count (length x))
  where
    short : count ≤ length x → AppendsFront a b (x ++ y)
    short le = (count, appends_as a b (take count x) (take count (x ++ y)) (sym (take-append-le count x y le)) h)

    by : (count ≡ length x) ⊎ ((count < length x) ⊎ (length x < count)) → AppendsFront a b (x ++ y)
    by (inl same) = short (omega (arith, same))
    by (inr (inl lt)) = short (omega (arith, lt))
    by (inr (inr lt)) = (length x, appends_as a b (take count x) (take (length x) (x ++ y)) (take_all count x (omega (arith, lt)) ∙ sym (take-append_seam x y)) h)

-- nothing is appended
pub appends_nothing : (a : Option (List ℕ)) → Appends a a []
appends_nothing a = Appends-nil a
