-- The steps of a turn that is driven, one more after those that were taken.
use Rattle.std.proofs.Common.{ℕ, ◌<◌, ◌≡◌, ◌⊎◌, ◌++◌, Bool, true, List, [], ◌∷◌, Result, length, refl, ◌∙◌, ap, subst, arith, ⊎_elim, inl, inr}
use Rattle.std.specs.Bool.{IsTrue}
use Rattle.dconf_model.specs.Folders.{Event}
use Rattle.dconf_turn.specs.declared.turn.Turn.{Turn}
use Rattle.dconf_turn.specs.declared.step.Outcome.{Outcome}
use Rattle.dconf_turn.specs.declared.step.Step.{Step}
use Rattle.dconf_turn.specs.declared.step.Step.TheVariants.{Lock, Read, Make, Create, Append, Sync, SetAside, Exchange, Rename, SyncFolder, Remove, Settle, Note, Unlock, Done}
use Rattle.dconf_turn.specs.declared.step.Answer.{Answer}
use Rattle.dconf_turn.specs.declared.step.Answer.TheVariants.{Yes, No}
use Rattle.dconf_turn.specs.Jobs.{Job}
use Rattle.dconf_turn.specs.Steps.{place, step_of, Follows, IsDone, KnowsAfter}
use Rattle.dconf_turn.specs.Hosts.{DidStep}
use Rattle.dconf_turn.specs.Progress.{IsAnswered}
use Rattle.dconf_turn.specs.Histories.{Taken, RanSteps}
use Rattle.dconf_turn.specs.Survivals.{Drove}
use Rattle.dconf_folders.specs.declared.fault.FolderFault.{FolderFault}
use Rattle.dconf_disk.specs.Driving.{DidHere, IsDriven, IsOnWay, IsWhole, job_of, result_of}

-- ---- one step more

abbrev one_more : Turn → Answer → List Event → List Taken
one_more t answer now = (record { step = step_of t; answer = answer; now = now }) ∷ []

ran_on : (taken : List Taken) (b t u : Turn) (answer : Answer) (job : Job) (es mid now : List Event) → RanSteps taken b t job es mid → ¬ IsDone (step_of t)
    → DidStep (step_of t) answer job mid now → IsAnswered t answer u → RanSteps (taken ++ one_more t answer now) b u job es now
ran_on [] b t u answer job es mid now r goes did a =
    (ap step_of r.0, goes, subst (λ l. DidStep (step_of t) answer job l now) r.1 did, (u, subst (λ x. IsAnswered x answer u) r.0 a, (refl, refl)))
ran_on (s ∷ more) b t u answer job es mid now r goes did a =
    (r.0, r.1, r.2, (r.3.0, r.3.1, ran_on more r.3.0 t u answer job s.now mid now r.3.2 goes did a))

drove_on : (t u : Turn) (answer : Answer) (job : Job) (es mid now : List Event) → Drove t job es mid → ¬ IsDone (step_of t) → DidStep (step_of t) answer job mid now
    → IsAnswered t answer u → Drove u job es now
drove_on t u answer job es mid now d goes did a = record {
  taken = d.taken ++ one_more t answer now;
  begun = d.begun;
  is_begun = d.is_begun;
  ran = ran_on d.taken d.begun t u answer job es mid now d.ran goes did a;
}

-- ---- what is set aside behind the folder

aside_or_not : (step : Step) → (step ≡ SetAside) ⊎ ¬ (step ≡ SetAside)
aside_or_not SetAside = inl refl
aside_or_not Lock = inr (λ e. cc)
aside_or_not Read = inr (λ e. cc)
aside_or_not Make = inr (λ e. cc)
aside_or_not (Create m) = inr (λ e. cc)
aside_or_not (Append at) = inr (λ e. cc)
aside_or_not (Sync b) = inr (λ e. cc)
aside_or_not Exchange = inr (λ e. cc)
aside_or_not Rename = inr (λ e. cc)
aside_or_not SyncFolder = inr (λ e. cc)
aside_or_not Remove = inr (λ e. cc)
aside_or_not Settle = inr (λ e. cc)
aside_or_not Note = inr (λ e. cc)
aside_or_not Unlock = inr (λ e. cc)
aside_or_not (Done o) = inr (λ e. cc)

-- any other step is done to this one
done_here : (hides : Bool) (step : Step) (answer : Answer) (name bytes : List ℕ) (es now : List Event) → IsWhole step answer (length bytes) → ¬ (step ≡ SetAside)
    → DidHere hides step answer name bytes es now → DidStep step answer (job_of name bytes) es now
done_here hides SetAside answer name bytes es now w n d = absurd (n refl)
done_here hides Settle (Yes k) name bytes es now w n d = absurd w
done_here hides Settle (No f) name bytes es now w n d = inl d
done_here hides Lock answer name bytes es now w n d = d
done_here hides Read answer name bytes es now w n d = d
done_here hides Make answer name bytes es now w n d = d
done_here hides (Create m) answer name bytes es now w n d = d
done_here hides (Append at) answer name bytes es now w n d = d
done_here hides (Sync b) answer name bytes es now w n d = d
done_here hides Exchange answer name bytes es now w n d = d
done_here hides Rename answer name bytes es now w n d = d
done_here hides SyncFolder answer name bytes es now w n d = d
done_here hides Remove answer name bytes es now w n d = d
done_here hides Note answer name bytes es now w n d = d
done_here hides Unlock answer name bytes es now w n d = d
done_here hides (Done o) answer name bytes es now w n d = d

-- and after it only later ones come, by a turn that knows the same
later : (step next : Step) → 5 < place step → ¬ IsDone step → Follows step next → 6 < place next
later (Append at) next p goes f = absurd (omega (arith, p))
later (Done o) next p goes f = absurd (goes tt)
later Lock next p goes f = omega (arith, f, p)
later Read next p goes f = omega (arith, f, p)
later Make next p goes f = omega (arith, f, p)
later (Create m) next p goes f = omega (arith, f, p)
later (Sync b) next p goes f = omega (arith, f, p)
later SetAside next p goes f = omega (arith, f, p)
later Exchange next p goes f = omega (arith, f, p)
later Rename next p goes f = omega (arith, f, p)
later SyncFolder next p goes f = omega (arith, f, p)
later Remove next p goes f = omega (arith, f, p)
later Settle next p goes f = omega (arith, f, p)
later Note next p goes f = omega (arith, f, p)
later Unlock next p goes f = omega (arith, f, p)

knows_still : (step : Step) (answer : Answer) (t u : Turn) → 5 < place step → KnowsAfter step answer t u → IsTrue t.keeps → IsTrue u.keeps
knows_still Read answer t u p k asked = absurd (omega (arith, p))
knows_still Lock answer t u p k asked = k.1 ∙ asked
knows_still Make answer t u p k asked = k.1 ∙ asked
knows_still (Create m) answer t u p k asked = k.1 ∙ asked
knows_still (Append at) answer t u p k asked = k.1 ∙ asked
knows_still (Sync b) answer t u p k asked = k.1 ∙ asked
knows_still SetAside answer t u p k asked = k.1 ∙ asked
knows_still Exchange answer t u p k asked = k.1 ∙ asked
knows_still Rename answer t u p k asked = k.1 ∙ asked
knows_still SyncFolder answer t u p k asked = k.1 ∙ asked
knows_still Remove answer t u p k asked = k.1 ∙ asked
knows_still Settle answer t u p k asked = k.1 ∙ asked
knows_still Note answer t u p k asked = k.1 ∙ asked
knows_still Unlock answer t u p k asked = k.1 ∙ asked
knows_still (Done o) answer t u p k asked = k.1 ∙ asked

module _ (hides : Bool) (t u : Turn) (answer : Answer) (name bytes : List ℕ) (es mid now : List Event) (goes : ¬ IsDone (step_of t)) (a : IsAnswered t answer u)
    (whole : IsWhole (step_of t) answer (length bytes)) (asked : step_of t ≡ SetAside → (hides ≡ true) × IsTrue t.keeps)
    (did : DidHere hides (step_of t) answer name bytes mid now) where
  behind : (hides ≡ true) → IsTrue t.keeps → 5 < place (step_of t) → IsOnWay hides u name bytes es now
  behind h k p = inl (h, knows_still (step_of t) answer t u p a.knows k, later (step_of t) (step_of u) p goes a.order)

  pub on_way : IsOnWay hides t name bytes es mid → IsOnWay hides u name bytes es now
  on_way w =
      ⊎_elim (λ (b : (hides ≡ true) × IsTrue t.keeps × (6 < place (step_of t))). behind b.0 b.1 (omega (arith, b.2)))
      (λ (d : Drove t (job_of name bytes) es mid).
      ⊎_elim (λ (e : step_of t ≡ SetAside). (let p : place (step_of t) ≡ 6 = ap place e in behind (asked e).0 (asked e).1 (omega (arith, p))))
      (λ (n : ¬ (step_of t ≡ SetAside)). inr (drove_on t u answer (job_of name bytes) es mid now d goes (done_here hides (step_of t) answer name bytes mid now whole n did) a))
      (aside_or_not (step_of t))) w

-- at its end
pub driven : (hides : Bool) (t : Turn) (result : Result (Unit {0}) FolderFault) (outcome : Outcome) (name bytes : List ℕ) (es now : List Event)
    → step_of t ≡ Done outcome → result ≡ result_of outcome → IsOnWay hides t name bytes es now → IsDriven hides result name bytes es now
driven hides t result outcome name bytes es now over is w = record {
  turn = t;
  outcome = outcome;
  over = over;
  said = is;
  drove = ⊎_elim (λ (b : (hides ≡ true) × IsTrue t.keeps × (6 < place (step_of t))). inl (b.0, b.1)) (λ (d : Drove t (job_of name bytes) es now). inr d) w;
}
