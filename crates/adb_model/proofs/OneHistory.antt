-- The lines of a script are played by one legal history at the most.
use Rattle.std.proofs.Common.{◌≡◌, List, [], ◌∷◌, ◌++◌, Option, Some, None, refl, sym, ap, ◌∙◌, subst}
use Rattle.adb_model.specs.State.{State}
use Rattle.adb_model.specs.Call.{Call, Reply, Event}
use Rattle.adb_model.specs.Step.{step}
use Rattle.adb_model.specs.History.{state_after, IsLegal}
use Rattle.adb_model.specs.Plays.{Line, Follow, Plays}
use Rattle.adb_model.proofs.Histories.{legal_rest}

-- two replies to one call at one state
same_event : (m : State) (e f : Event) → e.pass ≡ f.pass → e.call ≡ f.call → e.reply ≡ (step m e.pass e.call).1 → f.reply ≡ (step m f.pass f.call).1 → e ≡ f
same_event m e f pass call reply reply' =
    let same : e.reply ≡ f.reply = reply ∙ ap (λ p. (step m p e.call).1) pass ∙ ap (λ c. (step m f.pass c).1) call ∙ sym reply' in
    λ i. record { pass = pass i; call = call i; reply = same i }

same_some : (o : Option Call) (c d : Call) → o ≡ Some c → o ≡ Some d → c ≡ d
same_some o c d e f = let both : Some c ≡ Some d = sym e ∙ f in cc

-- an order's events follow from the state and its replies
one_group : (m : State) (line : Line) (reply : Option Reply) (h g h' g' : List Event) → Follow line reply h → Follow line reply g → IsLegal m (h ++ h') → IsLegal m (g ++ g') → h ≡ g
one_group m line reply [] [] h' g' a b p q = refl
one_group m line reply [] (f ∷ g) h' g' a b p q = let no : None ≡ Some f.call = sym a ∙ b.1 in absurd cc
one_group m line reply (e ∷ h) [] h' g' a b p q = let no : None ≡ Some e.call = sym b ∙ a.1 in absurd cc
one_group m line reply (e ∷ h) (f ∷ g) h' g' a b p q =
    let same : e ≡ f = same_event m e f (a.0 ∙ sym b.0) (same_some _ e.call f.call a.1 b.1) p.0 q.0 in
    let follows : Follow line (Some e.reply) g = subst (λ (x : Event). Follow line (Some x.reply) g) (sym same) b.2 in
    let legal : IsLegal (step m e.pass e.call).0 (g ++ g') = subst (λ (x : Event). IsLegal (step m x.pass x.call).0 (g ++ g')) (sym same) q.1 in
    let rest : h ≡ g = one_group (step m e.pass e.call).0 line (Some e.reply) h g h' g' a.2 follows p.1 legal in
    λ i. same i ∷ rest i

pub one_history : (m : State) (lines : List Line) (h g : List Event) → IsLegal m h → Plays lines h → IsLegal m g → Plays lines g → h ≡ g
one_history m [] h g p a q b = a ∙ sym b
one_history m (line ∷ lines) h g p (group, rest, split, follow, plays) q (group', rest', split', follow', plays') =
    let legal : IsLegal m (group ++ rest) = subst (IsLegal m) split p in
    let legal' : IsLegal m (group' ++ rest') = subst (IsLegal m) split' q in
    let same : group ≡ group' = one_group m line None group group' rest rest' follow follow' legal legal' in
    let after : IsLegal (state_after m group) rest = legal_rest m group rest legal in
    let after' : IsLegal (state_after m group) rest' = subst (λ (x : List Event). IsLegal (state_after m x) rest') (sym same) (legal_rest m group' rest' legal') in
    let rests : rest ≡ rest' = one_history (state_after m group) lines rest rest' after plays after' plays' in
    split ∙ (λ i. same i ++ rests i) ∙ sym split'
