use Rattle.std.proofs.Common.{◌≡◌, ℕ, List, [], ◌∷◌, ◌++◌, length, map, take, sym, ap, ◌∙◌, arith}
use Rattle.std.proofs.Math.Seq.{take-length}
use Rattle.std.proofs.lemmas.Simd.{map-map}
use Rattle.adb_model.specs.Lists.{among}
use Rattle.adb_model.specs.Opened as machine
use Rattle.vec_scan.specs.Image.{Image}
use Rattle.vec_scan.specs.Shown.{stored}
use Rattle.open_plan.proofs.Rising.{rising_is}
use Rattle.open_plan.proofs.roots.roots_of.Goals as goal

pub returns : goal.returns
returns c =
    let storages = c.args.storages.now in
    let more = c.args.more_roots.now in
    let slot = c.args.slot in
    let slots = map (λ (i : Image). i.slot) storages in
    let slots_are : map (λ (i : machine.Image). i.slot) (map stored storages) ≡ slots = map-map (λ (i : machine.Image). i.slot) stored storages in
    let all : c.loop-storage.storage-index ≡ length storages = omega (arith, c.loop-storage-test.false, c.loop-storage.auto.storage-index-end) in
    let walked : c.loop-storage.slots.items ≡ slots = c.loop-storage.invariant ∙ ap (λ n. map (λ (i : Image). i.slot) (take n storages)) all ∙ ap (map (λ (i : Image). i.slot)) (take-length storages) in
    let items : c.push-2.new.self.items ≡ map (λ (i : machine.Image). i.slot) (map stored storages) ++ more ++ slot ∷ [] =
    c.in_ok-push-2.ensures.items
    ∙ ap (λ (xs : List ℕ). xs ++ slot ∷ []) (c.in_ok-extend_from_slice.ensures.items ∙ ap (λ (xs : List ℕ). xs ++ more) walked)
    ∙ ap (λ (xs : List ℕ). xs ++ more ++ slot ∷ []) (sym slots_are) in
    rising_is (map (λ (i : machine.Image). i.slot) (map stored storages) ++ more ++ slot ∷ []) c.of.result c.of.ensures.rise (λ s. c.of.ensures.each s ∙ ap (among s) items)
