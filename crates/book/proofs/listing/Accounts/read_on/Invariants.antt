use Rattle.std.proofs.Common.{◌≡◌, List, length, map, take}
use Rattle.adb_model.specs.State.{State}
use Rattle.adb_model.specs.Call.{Event}
use Rattle.adb_model.specs.History.{state_after}
use Rattle.book_parts.specs.Stands.{Stands}
use Rattle.book.specs.Listing.{HaveAnswers}
use Rattle.book.proofs.listing.Accounts.read_on.Given as goal

abbrev pub invariant-loop-key : goal.invariant-loop-key
invariant-loop-key l = record {
  many : length l.into.items ≡ l.key-index;
  keys : map (λ r. r.0.0) l.into.items ≡ map (λ f. f.0.0) (take l.key-index l.key-items);
  answers : (m0 : State) (h : List Event) → Stands l.book m0 h → HaveAnswers (state_after m0 h) l.self-inside.view.now l.into.items;
}
