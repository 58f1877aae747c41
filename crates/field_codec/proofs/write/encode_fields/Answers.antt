use Rattle.std.proofs.Common.{◌≡◌, ℕ, List, [], ◌++◌, append_assoc, refl, sym, ap, subst, ◌∙◌, All, arith}
use Rattle.std.specs.Prelude.{replicate}
use Rattle.std.proofs.lemmas.List.Elements.{recursion_from_All}
use Rattle.le_fields.specs.Fields.{number_bytes}
use Rattle.field_codec.specs.declared.fields.FieldStorage.{FieldStorage}
use Rattle.field_codec.specs.Manifest.{Fits, IsManifest, content_of, map_bytes}
use Rattle.field_codec.specs.Written.{IsWritable}
use Rattle.field_codec.proofs.Writing.{written_is_manifest}
use Rattle.field_codec.proofs.write.encode_fields.Goals as goal

chained : (a b c d e : List ℕ) → (((([] ++ a) ++ b) ++ c) ++ d) ++ e ≡ a ++ (b ++ (c ++ (d ++ e)))
chained a b c d e = simp append_assoc refl

pub returns-clause-written : goal.returns-clause-written
returns-clause-written c =
    let fields = c.args.fields.now in
    let map = map_bytes fields.storages.items in
    let slot = number_bytes fields.slot in
    let e0 : c.put_map.new.bytes.items ≡ [] ++ map = c.in_ok-put_map.ensures.written ∙ (λ i. c.new-bytes.ensures.items i ++ map_bytes (c.deref.ensures.value i)) in
    let e1 : c.extend_from_slice.new.self.items ≡ ([] ++ map) ++ replicate 8 0 = c.in_ok-extend_from_slice.ensures.items ∙ ap (λ (xs : List ℕ). xs ++ replicate 8 0) e0 in
    let e2 : c.extend_from_slice-2.new.self.items ≡ (([] ++ map) ++ replicate 8 0) ++ slot = c.in_ok-extend_from_slice-2.ensures.items ∙ (λ i. e1 i ++ c.to_le_bytes.ensures i) in
    let e3 : c.extend_from_slice-3.new.self.items ≡ ((([] ++ map) ++ replicate 8 0) ++ slot) ++ replicate 104 0 = c.in_ok-extend_from_slice-3.ensures.items ∙ ap (λ (xs : List ℕ). xs ++ replicate 104 0) e2 in
    let e4 : c.extend_from_slice-4.new.self.items ≡ (((([] ++ map) ++ replicate 8 0) ++ slot) ++ replicate 104 0) ++ replicate 16 0 = c.in_ok-extend_from_slice-4.ensures.items ∙ ap (λ (xs : List ℕ). xs ++ replicate 16 0) e3 in
    e4 ∙ chained map (replicate 8 0) slot (replicate 104 0) (replicate 16 0)

pub returns-clause-manifest : goal.returns-clause-manifest
returns-clause-manifest c =
    let content = content_of c.args.fields.now in
    let w : IsWritable content = record {
      count_fits = omega (arith, c.args.fields.now.storages.small);
      storages_fit = recursion_from_All Fits c.args.fields.now.storages.items (subst (λ (xs : List FieldStorage). All Fits xs) c.deref.ensures.value c.in_ok-put_map.ensures.fit);
      slot_fits = omega arith;
      rise = c.requires.rise;
    } in
    subst (λ (bytes : List ℕ). IsManifest bytes content) (sym (returns-clause-written c)) (written_is_manifest content w)
