-- What a book is opened from: sealed images of files that are by rising slot.
use Rattle.std.proofs.Common.{◌≡◌, ℕ, suc, ◌+◌, ◌<◌, ◌≤◌, Bool, true, false, not, eqb, nat_lt, List, [], ◌∷◌, All, AllPairs, length, map, filter, get_or, Some, refl, sym, ap, subst, ◌∙◌, arith}
use Rattle.std.specs.Prelude.{sum_by}
use Rattle.std.specs.List.Sorted.{IsStrictlyIncreasing}
use Rattle.std.proofs.lemmas.Bool.{ltb-true, eqb-true}
use Rattle.std.proofs.lemmas.List.{get_or-map, length-map}
use Rattle.std.proofs.lemmas.List.Elements.{All-cons, All-filter, All-head, All-map, All-nil, All-tail, All-weaker, filter_passes}
use Rattle.std.proofs.lemmas.List.Kept.{AllPairs-filter, AllPairs-from_increasing}
use Rattle.std.proofs.lemmas.List.Sums.{sum_by-cons}
use Rattle.std.proofs.lemmas.Simd.{map-map}
use Rattle.adb_model.specs.Laws.{MayOpen}
use Rattle.adb_model.specs.Lists.{among}
use Rattle.adb_model.specs.Opened as machine
use Rattle.book_parts.specs.Opening.{AreFurther, AreOpenable, sizes_of}
use Rattle.field_codec.specs.Forms.{Found, IsInOrder, NamedFile}
use Rattle.snap_write.specs.Written.{has_rows, slots_without_rows, with_rows}
use Rattle.vec_scan.specs.Image.{Image, Placed}
use Rattle.vec_scan.specs.Shown.{stored}
use Rattle.snap_open.specs.Images.{AreImagesOf, AreSealed, IsImageOf, files_of}
use Rattle.snap_open.specs.Sizes.{HasRoom, size_of, sizes_in}
use Rattle.snap_open.specs.declared.reading.Loaded.{Loaded}
use Rattle.snap_open.proofs.Rows.{shows_rows}

-- ---- lists under a view

pairs_through : {X Y : Type 0} (R : Y → Y → Type 0) (f : X → Y) (xs : List X) → AllPairs R (map f xs) → AllPairs (λ x y. R (f x) (f y)) xs
pairs_through R f xs pairs i j d lt within =
    let len = length-map xs f in
    let low = get_or-map f xs i d (f d) (omega (arith, lt, within)) in
    let high = get_or-map f xs j d (f d) within in
    subst (λ (y : _). R (f (get_or xs i d)) y) high (subst (λ (x : _). R x (get_or (map f xs) j (f d))) low (pairs i j (f d) lt (omega (arith, len, within))))

pub all_through : {X Y : Type 0} (P : Y → Type 0) (f : X → Y) (xs : List X) → All P (map f xs) → All (λ x. P (f x)) xs
all_through P f [] all = All-nil (λ x. P (f x))
all_through P f (x ∷ xs) all = All-cons (λ x. P (f x)) x xs (All-head P (f x) (map f xs) all) (all_through P f xs (All-tail P (f x) (map f xs) all))

pairs_over : {X Y : Type 0} (R : Y → Y → Type 0) (f : X → Y) (xs : List X) → AllPairs (λ x y. R (f x) (f y)) xs → AllPairs R (map f xs)
pairs_over R f [] pairs i j d lt within = absurd (omega (arith, within))
pairs_over R f (x ∷ xs) pairs i j d lt within =
    let len = length-map (x ∷ xs) f in
    let low = get_or-map f (x ∷ xs) i x d (omega (arith, lt, within, len)) in
    let high = get_or-map f (x ∷ xs) j x d (omega (arith, within, len)) in
    subst (λ (y : _). R (get_or (map f (x ∷ xs)) i d) y) (sym high) (subst (λ (y : _). R y (f (get_or (x ∷ xs) j x))) (sym low) (pairs i j x lt (omega (arith, within, len))))

pairs_head : {X : Type 0} (R : X → X → Type 0) (x : X) (xs : List X) → AllPairs R (x ∷ xs) → All (R x) xs
pairs_head R x xs pairs k d lt = pairs 0 (suc k) d (omega arith) (omega (arith, lt))

pairs_tail : {X : Type 0} (R : X → X → Type 0) (x : X) (xs : List X) → AllPairs R (x ∷ xs) → AllPairs R xs
pairs_tail R x xs pairs i j d lt within = pairs (suc i) (suc j) d (omega (arith, lt)) (omega (arith, within))

abbrev Below : machine.Image → machine.Image → Type 0
Below i j = i.slot < j.slot

abbrev slot_of : machine.Image → ℕ
slot_of i = i.slot

-- ---- images by rising slot

module _ (laid : List machine.Image) (rise : AllPairs Below laid) where
  with_rise : AllPairs Below (with_rows laid)
  with_rise = AllPairs-filter Below has_rows laid rise

  with_some : All (λ i. 0 < length i.rows) (with_rows laid)
  with_some = All-weaker (λ (i : machine.Image). has_rows i ≡ true) (λ (i : machine.Image). 0 < length i.rows) (λ i. ltb-true 0 (length i.rows)) (with_rows laid) (filter_passes has_rows laid)

  more_rise : IsStrictlyIncreasing (slots_without_rows laid)
  more_rise k within = pairs_over (λ a b. a < b) slot_of (filter (λ i. not (has_rows i)) laid) (AllPairs-filter Below (λ i. not (has_rows i)) laid rise) k (k + 1) 0 (omega arith) within

not_among : (n : ℕ) (ns : List ℕ) → All (λ m. n < m) ns → among n ns ≡ false
not_among n [] all = refl
not_among n (m ∷ ns) all = by (eqb m n) refl (not_among n ns (All-tail (λ k. n < k) m ns all))
  where
    by : (b : Bool) → eqb m n ≡ b → among n ns ≡ false → among n (m ∷ ns) ≡ false
    by true is rest = let same = eqb-true m n is in let lt = All-head (λ k. n < k) m ns all in absurd (omega (arith, same, lt))
    by false is rest = rw is rest

differs : (n m : ℕ) (ns : List ℕ) → m < n → among n ns ≡ false → among n (m ∷ ns) ≡ false
differs n m ns lt none = by (eqb m n) refl
  where
    by : (b : Bool) → eqb m n ≡ b → among n (m ∷ ns) ≡ false
    by true is = let same = eqb-true m n is in absurd (omega (arith, same, lt))
    by false is = rw is none

apart : (laid : List machine.Image) → AllPairs Below laid → All (λ i. among i.slot (slots_without_rows laid) ≡ false) (with_rows laid)
apart [] rise = All-nil (λ (i : machine.Image). among i.slot [] ≡ false)
apart (x ∷ laid) rise =
    by (has_rows x) refl (pairs_head Below x laid rise) (apart laid (pairs_tail Below x laid rise))
  where
    by : (b : Bool) → has_rows x ≡ b → All (Below x) laid → All (λ i. among i.slot (slots_without_rows laid) ≡ false) (with_rows laid) → All (λ i. among i.slot (slots_without_rows (x ∷ laid)) ≡ false) (with_rows (x ∷ laid))
    by true some above rest =
        rw some
        (All-cons (λ (i : machine.Image). among i.slot (slots_without_rows laid) ≡ false) x (with_rows laid)
        (not_among x.slot (slots_without_rows laid) (All-map (λ m. x.slot < m) slot_of (filter (λ i. not (has_rows i)) laid) (All-filter (λ i. not (has_rows i)) (Below x) laid above))) rest)
    by false none above rest = rw none (all_differ (with_rows laid) (All-filter has_rows (Below x) laid above) rest)
      where
        all_differ : (xs : List machine.Image) → All (Below x) xs → All (λ i. among i.slot (slots_without_rows laid) ≡ false) xs → All (λ i. among i.slot (x.slot ∷ slots_without_rows laid) ≡ false) xs
        all_differ [] up none = All-nil (λ (i : machine.Image). among i.slot (x.slot ∷ slots_without_rows laid) ≡ false)
        all_differ (y ∷ ys) up none =
            All-cons (λ (i : machine.Image). among i.slot (x.slot ∷ slots_without_rows laid) ≡ false) y ys
            (differs y.slot x.slot (slots_without_rows laid) (All-head (Below x) y ys up) (All-head (λ (i : machine.Image). among i.slot (slots_without_rows laid) ≡ false) y ys none))
            (all_differ ys (All-tail (Below x) y ys up) (All-tail (λ (i : machine.Image). among i.slot (slots_without_rows laid) ≡ false) y ys none))

-- ---- images of files

slots_same : (files : List Loaded) (laid : List machine.Image) → AreImagesOf files laid → map slot_of laid ≡ map (λ (f : NamedFile). f.slot) (files_of files)
slots_same [] [] are = refl
slots_same [] (image ∷ laid) are = absurd are
slots_same (l ∷ files) [] are = absurd are
slots_same (l ∷ files) (image ∷ laid) are =
    let first : image.slot ≡ l.file.slot = let is = are.0 in is.slot in
    let rest = slots_same files laid are.1 in
    λ i. first i ∷ rest i

image_bytes : (loaded : Loaded) (image : machine.Image) → IsImageOf loaded image → image.bytes ≡ size_of loaded.file.len
image_bytes loaded image is = omega (arith, is.bytes, is.small)

pub bytes_same : (files : List Loaded) (laid : List machine.Image) → AreImagesOf files laid → map (λ (i : machine.Image). i.bytes) (with_rows laid) ≡ sizes_in (files_of files)
bytes_same [] [] are = refl
bytes_same [] (image ∷ laid) are = absurd are
bytes_same (l ∷ files) [] are = absurd are
bytes_same (l ∷ files) (image ∷ laid) are = by (nat_lt 0 l.file.len) refl (let is = are.0 in shows_rows l.file.len image (Some l.bytes.items) is.rows) (bytes_same files laid are.1)
  where
    by : (b : Bool) → nat_lt 0 l.file.len ≡ b → has_rows image ≡ nat_lt 0 l.file.len → map (λ (i : machine.Image). i.bytes) (with_rows laid) ≡ sizes_in (files_of files)
        → map (λ (i : machine.Image). i.bytes) (with_rows (image ∷ laid)) ≡ sizes_in (files_of (l ∷ files))
    by false none same rest = let no : has_rows image ≡ false = same ∙ none in rw (none, no) rest
    by true some same rest =
        let yes : has_rows image ≡ true = same ∙ some in
        let first = image_bytes l image are.0 in
        rw (some, yes) (λ i. first i ∷ rest i)

sum-map : {X : Type 0} (f : X → ℕ) (xs : List X) → sum_by (λ n. n) (map f xs) ≡ sum_by f xs
sum-map f [] = refl
sum-map f (x ∷ xs) = sum_by-cons (λ (n : ℕ). n) (f x) (map f xs) ∙ ap (λ (n : ℕ). f x + n) (sum-map f xs) ∙ sym (sum_by-cons f x xs)

-- ---- what a book is opened from

module _ (form : Found) (order : IsInOrder form) (files : List Loaded) (read : files_of files ≡ form.files) (laid : List machine.Image) (are : AreImagesOf files laid) where
  slots : map slot_of laid ≡ map (λ (f : NamedFile). f.slot) form.files
  slots = slots_same files laid are ∙ ap (map (λ (f : NamedFile). f.slot)) read

  rise : AllPairs Below laid
  rise = pairs_through (λ a b. a < b) slot_of laid (AllPairs-from_increasing (map slot_of laid) (subst (λ (l : List ℕ). IsStrictlyIncreasing l) (sym slots) order.rise))

  upto : All (λ i. i.slot ≤ form.slot) laid
  upto = all_through (λ s. s ≤ form.slot) slot_of laid (subst (All (λ s. s ≤ form.slot)) (sym slots) (All-map (λ s. s ≤ form.slot) (λ (f : NamedFile). f.slot) form.files order.upto))

  pub may_open : (budget : ℕ) → HasRoom budget (sizes_in form.files) → MayOpen budget (with_rows laid)
  may_open budget room =
      let bytes : map (λ (i : machine.Image). i.bytes) (with_rows laid) ≡ sizes_in form.files = bytes_same files laid are ∙ ap sizes_in read in
      let sum = sym (sum-map (λ (i : machine.Image). i.bytes) (with_rows laid)) ∙ ap (sum_by (λ n. n)) bytes in
      let count = sym (length-map (with_rows laid) (λ (i : machine.Image). i.bytes)) ∙ ap length bytes in
      record {
        rise = with_rise laid rise;
        some = with_some laid rise;
        fits = omega (arith, sum, room.fits);
        cells = omega (arith, count, room.cells);
      }

module _ (form : Found) (order : IsInOrder form) (files : List Loaded) (read : files_of files ≡ form.files) (storages : List Image) (more : List ℕ) (sealed : AreSealed files storages more) where
  abbrev laid : List machine.Image
  laid = sealed.laid

  rises : AllPairs Below laid
  rises = rise form order files read laid sealed.are_images

  -- what is so of the images that have rows is so of the storages
  of_storages : (P : machine.Image → Type 0) → All P (with_rows laid) → All (λ i. P (stored i)) storages
  of_storages P all = all_through P stored storages (subst (All P) (sym sealed.storages_are) all)

  pub openable : AreOpenable form.slot storages
  openable = record {
    some = All-weaker (λ (i : Image). 0 < length (stored i).rows) (λ (i : Image). 0 < length i.rows) (λ i some. subst (λ (n : ℕ). 0 < n) (length-map i.rows (λ (p : Placed). p.row)) some) storages
        (of_storages (λ i. 0 < length i.rows) (with_some laid rises));
    rise = pairs_through Below stored storages (subst (AllPairs Below) (sym sealed.storages_are) (with_rise laid rises));
    upto = of_storages (λ i. i.slot ≤ form.slot) (All-filter has_rows (λ i. i.slot ≤ form.slot) laid (upto form order files read laid sealed.are_images));
    ids = sealed.ids;
  }

  pub further : AreFurther form.slot storages more
  further = subst (AreFurther form.slot storages) (sym sealed.more_are) (record {
    rise = more_rise laid rises;
    upto = All-map (λ s. s ≤ form.slot) slot_of (filter (λ i. not (has_rows i)) laid) (All-filter (λ i. not (has_rows i)) (λ i. i.slot ≤ form.slot) laid (upto form order files read laid sealed.are_images));
    apart = of_storages (λ i. among i.slot (slots_without_rows laid) ≡ false) (apart laid rises);
  })

  pub sizes_are : sizes_of storages ≡ sizes_in form.files
  sizes_are =
      sym (map-map (λ (i : machine.Image). i.bytes) stored storages) ∙ ap (map (λ (i : machine.Image). i.bytes)) sealed.storages_are ∙ bytes_same files laid sealed.are_images ∙ ap sizes_in read
