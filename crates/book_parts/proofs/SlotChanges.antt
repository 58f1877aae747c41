-- What the change of a cell leaves of the fit of a map and storages.
use Rattle.std.proofs.Common.{◌≡◌, ℕ, List, Bool, true, false, cond, eqb, Option, Some, None, refl, ap}
use Rattle.std.proofs.lemmas.Bool.{eqb-true}
use Rattle.cell_table.specs.declared.phase.Phase.{Phase}
use Rattle.cell_table.specs.Phases.{has_id}
use Rattle.cell_table.specs.Cells.{cell_at}
use Rattle.storage_map.specs.declared.entry.Live.{Live}
use Rattle.storage_map.specs.declared.entry.Begun.{Begun}
use Rattle.adb_model.specs.State.{Storage}
use Rattle.adb_model.specs.Call.{Counts}
use Rattle.book_parts.specs.Parts.{Shared}
use Rattle.book_parts.specs.Storages.{IsLiveOf, IsBegunOf}

module _ (cells others : List (Phase Shared)) where
  -- cells that have the storage's id have it still
  abbrev pub Keeps : Option Storage → Type 0
  Keeps storage = (u : Storage) (cell : ℕ) → storage ≡ Some u → has_id u.id (cell_at cells cell) ≡ true → has_id u.id (cell_at others cell) ≡ true

  pub live_kept : (named : ℕ) (live : Option Live) (storage : Option Storage) → Keeps storage → IsLiveOf cells named live storage → IsLiveOf others named live storage
  live_kept named None None keeps is = is
  live_kept named None (Some t) keeps is = absurd is
  live_kept named (Some l) None keeps is = absurd is
  live_kept named (Some l) (Some t) keeps is = (keeps t l.cell refl is.0, is.1, is.2)

  pub begun_kept : (begun : Option Begun) (storage : Option Storage) → Keeps storage → IsBegunOf cells begun storage → IsBegunOf others begun storage
  begun_kept None None keeps is = is
  begun_kept None (Some t) keeps is = absurd is
  begun_kept (Some b) None keeps is = absurd is
  begun_kept (Some b) (Some t) keeps is = (keeps t b.cell refl is.0, is.1)

pub no_begun : (cells : List (Phase Shared)) (begun : Option Begun) → IsBegunOf cells begun None → begun ≡ None
no_begun cells None is = refl
no_begun cells (Some b) is = absurd is

pub no_live : (cells : List (Phase Shared)) (named : ℕ) (live : Option Live) → IsLiveOf cells named live None → live ≡ None
no_live cells named None is = refl
no_live cells named (Some l) is = absurd is

-- a value given again for a number is what it has
pub if_same : {X : Type 0} (f : ℕ → X) (a b : ℕ) → cond (eqb a b) (f a) (f b) ≡ f b
if_same f a b = by (eqb a b) refl
  where
    by : (c : Bool) → eqb a b ≡ c → cond c (f a) (f b) ≡ f b
    by true e = ap f (eqb-true a b e)
    by false e = refl

-- counts that agree in each part are the same
pub same_counts : (a b : Counts) → a.cached ≡ b.cached → a.filling ≡ b.filling → a.live ≡ b.live → a.retired ≡ b.retired → a.named ≡ b.named → a.rows ≡ b.rows → a.bytes ≡ b.bytes → a.pins ≡ b.pins → a ≡ b
same_counts a b cached filling live retired named rows bytes pins = λ i. record {
  cached = cached i;
  filling = filling i;
  live = live i;
  retired = retired i;
  named = named i;
  rows = rows i;
  bytes = bytes i;
  pins = pins i;
}
