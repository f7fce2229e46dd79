-- When a store has no answer.
use Rattle.std.specs.Prelude.{◌≡◌, ℕ, Bool, true, List, Option, codes, Err, Some, slice_get, take, decimal, ◌++◌}
use Rattle.dconf_model.specs.Bytes.{MaybeBytes}
use Rattle.dconf_model.specs.Databases.{IsFirstBad, IsTooBig}
use Rattle.dconf_model.specs.Layers.{Layers}
use Rattle.dconf_model.specs.Changes.{Change, Refusal, apply, saved}
use Rattle.dconf_model.specs.FaultTexts.{bad_database_text}
use Rattle.dconf_model.specs.Outcomes.{verdict_text}
use Rattle.gv_model.specs.Tree.{Tree}
use Rattle.gv_model.specs.Printed.{is_too_large}
use Rattle.dconf_engine.specs.ChangeFaults.{refusal_of, change_fault_text}
use Rattle.dconf_layers.specs.Verdicts.{verdict_of}
use Rattle.dconf_store.specs.declared.fault.StoreFlaw.{StoreFlaw}
use Rattle.dconf_store.specs.declared.fault.StoreFlaw.TheVariants.{BadDatabase, Refused, TooBig, TooLarge}
use Rattle.dconf_store.specs.Seen.{AreChanged, AreOpened, HaveChanged, IsValueAfter}

-- the change of this index is refused, after those before it were accepted
pub record IsRefused (l : Layers) (changes : List Change) (i : ℕ) (r : Refusal) : Type 0 where
  pub reached : Layers
  pub before : HaveChanged l (take i changes) reached
  pub change : Change
  pub is : slice_get changes i ≡ Some change
  pub refused : apply reached change ≡ Err r

abbrev pub IsRefusedAt : Layers → List Change → StoreFlaw → Type 0
IsRefusedAt l changes (Refused i flaw) = IsRefused l changes i (refusal_of flaw)
IsRefusedAt l changes _ = ⊥

-- a database is no sound one, a change is refused after those before it were accepted, or what is saved is too big
abbrev pub IsFaultOf : List MaybeBytes → Bool → List Change → StoreFlaw → Type 0
IsFaultOf files writable changes (BadDatabase i fault) = IsFirstBad files i (verdict_of fault)
IsFaultOf files writable changes (Refused i flaw) = (l : Layers) × AreOpened files writable l × IsRefusedAt l changes (Refused i flaw)
IsFaultOf files writable changes TooBig = (l : Layers) × AreChanged files writable changes l × IsTooBig (saved l.layers)
IsFaultOf files writable changes TooLarge = ⊥

-- the value that is read is more than 128 levels deep
abbrev pub IsTooLarge : Option Tree → Type 0
IsTooLarge v = (w : Tree) × (v ≡ Some w) × (is_too_large w ≡ true)

abbrev pub IsNoValue : List MaybeBytes → Bool → List Change → List ℕ → StoreFlaw → Type 0
IsNoValue files writable changes path TooLarge = (v : Option Tree) × IsValueAfter files changes path v × IsTooLarge v
IsNoValue files writable changes path flaw = IsFaultOf files writable changes flaw

-- ---- how it is printed

abbrev pub store_fault_text : StoreFlaw → List ℕ
store_fault_text (BadDatabase i fault) = bad_database_text i (verdict_text (verdict_of fault))
store_fault_text (Refused i flaw) = codes "Refused " ++ (decimal i ++ (codes ": " ++ change_fault_text flaw))
store_fault_text TooBig = codes "TooBig"
store_fault_text TooLarge = codes "TooLarge"
