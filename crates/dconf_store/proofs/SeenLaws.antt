-- What is seen of a store that was changed, saved and opened again.
use Rattle.std.specs.Prelude.{◌≡◌, ◌↔◌, ℕ, Bool, List, [], ◌∷◌, ◌++◌, map, Some, Result, Ok, Err, IfOk, IfErr, IsErrAnd, MatchResult, Contains, refl}
use Rattle.std.proofs.Common.{◌∙◌, ap, sym, subst}
use Rattle.dconf_model.specs.Bytes.{MaybeBytes}
use Rattle.dconf_model.specs.Settings.{Settings}
use Rattle.dconf_model.specs.Databases.{AreLayers, IsFirstBad, Verdict}
use Rattle.dconf_model.specs.Layers.{Layers, visible, child_names}
use Rattle.dconf_model.specs.Changes.{Change, saved}
use Rattle.dconf_model.specs.Sources.{Given, last_value}
use Rattle.dconf_model.specs.Paths.{first_part}
use Rattle.dconf_model.specs.Stores.{Deed, DidDeeds, Does, FilesGive, changes_of, value_given, own_after, IsNamed}
use Rattle.dconf_model.specs.Stores.Deed.{changed, reopened}
use Rattle.refused.specs.Faults.{IsCarried, OfFault}
use Rattle.refused.specs.declared.Refused.{Refused}
use Rattle.refused.proofs.Faults.{IfErr-carried}
use Rattle.dconf_engine.specs.declared.fault.BadDatabase.{BadDatabase}
use Rattle.dconf_layers.specs.Verdicts.{verdict_of}
use Rattle.dconf_store.specs.declared.fault.StoreFlaw.{StoreFlaw}
use Rattle.dconf_store.specs.Seen.{AreChildrenAfter, AreOpened, IsSavedAfter, IsValueAfter}
use Rattle.dconf_store.specs.Files.{with_first_file}
use Rattle.dconf_store.proofs.Applied.{did_all}
use Rattle.dconf_model.proofs.ProgramLaws.{none_is_bad}
use Rattle.dconf_model.proofs.WritableKept.{changes_keep_it}
use Rattle.dconf_model.proofs.StoreValues.{each_value_is_given}
use Rattle.dconf_model.proofs.StoreListings.{each_listing_is_exact}

-- changes, and then a saving
abbrev deeds : List Change → List ℕ → List Deed
deeds cs file = map changed cs ++ reopened file ∷ []

changes_were : (cs : List Change) (file : List ℕ) → changes_of (deeds cs file) ≡ cs
changes_were [] file = refl
changes_were (c ∷ cs) file = ap (λ cs. c ∷ cs) (changes_were cs file)

did_then : (others : List MaybeBytes) (l m n : Layers) (ds : List Deed) (deed : Deed) → DidDeeds others l ds m → Does others m deed n → DidDeeds others l (ds ++ deed ∷ []) n
did_then others l m n [] deed did does = (n, subst (λ l. Does others l deed n) did does, refl)
did_then others l m n (d ∷ ds) deed did does = (did.0, did.1, did_then others did.0 m n ds deed did.2 does)

module _ (first : MaybeBytes) (others : List MaybeBytes) (writable : Bool) (cs : List Change) (file : List ℕ) (m : Layers)
    (made : IsSavedAfter (first ∷ others) writable cs file) (again : AreOpened (Some file ∷ others) writable m) where
  did : DidDeeds others made.1.0 (deeds cs file) m
  did = did_then others made.1.0 made.0 m (map changed cs) (reopened file) (did_all others made.1.0 made.0 cs made.1.2)
      (made.2, again.layers, again.writable ∙ sym (changes_keep_it others made.1.0 made.0 cs (did_all others made.1.0 made.0 cs made.1.2) ∙ made.1.1.writable))

  pub value_is_seen : (path : List ℕ) (g : Given) (gs : List Given) → FilesGive (first ∷ others) (g ∷ gs) → visible m path ≡ value_given path (own_after gs (last_value g.values) cs path) gs
  value_is_seen path g gs give =
      each_value_is_given first others g gs made.1.0 m (deeds cs file) path (record { layers = made.1.1.layers; gives = give }) did
      ∙ ap (λ cs. value_given path (own_after gs (last_value g.values) cs path) gs) (changes_were cs file)

  pub children_are_seen : (directory : List ℕ) → AreChildrenAfter (first ∷ others) cs directory (child_names m directory)
  children_are_seen directory g gs give part =
      subst (λ cs. Contains (child_names m directory) part ↔ ((rest : List ℕ) × IsNamed (own_after gs (last_value g.values) cs) gs (directory ++ rest) × (part ≡ first_part rest))) (changes_were cs file)
      (each_listing_is_exact first others g gs made.1.0 m (deeds cs file) directory part (record { layers = made.1.1.layers; gives = give }) did)

-- ---- of any number of files

module _ (files : List MaybeBytes) (writable : Bool) (cs : List Change) (file : List ℕ) (m : Layers) where
  pub value_after : IsSavedAfter files writable cs file → AreOpened (with_first_file file files) writable m → (path : List ℕ) → IsValueAfter files cs path (visible m path)
  value_after made again path = go files made again
    where
      go : (files : List MaybeBytes) → IsSavedAfter files writable cs file → AreOpened (with_first_file file files) writable m → IsValueAfter files cs path (visible m path)
      go [] made again g gs give = absurd give
      go (first ∷ others) made again g gs give = value_is_seen first others writable cs file m made again path g gs give

  pub children_after : IsSavedAfter files writable cs file → AreOpened (with_first_file file files) writable m → (directory : List ℕ) →
      AreChildrenAfter files cs directory (child_names m directory)
  children_after made again directory = go files made again
    where
      go : (files : List MaybeBytes) → IsSavedAfter files writable cs file → AreOpened (with_first_file file files) writable m →
          AreChildrenAfter files cs directory (child_names m directory)
      go [] made again g gs give = absurd give
      go (first ∷ others) made again g gs give = children_are_seen first others writable cs file m made again directory g gs give

none_bad : (files : List MaybeBytes) (writable : Bool) (cs : List Change) (file : List ℕ) → IsSavedAfter files writable cs file → (i : ℕ) (v : Verdict) →
    IsFirstBad (with_first_file file files) i v → ⊥
none_bad [] writable cs file made i v bad = bad
none_bad (first ∷ others) writable cs file made i v bad = no_bad_one made.1.0.layers i v made.1.1.layers bad
  where
    no_bad_one : (ss : List Settings) (i : ℕ) (v : Verdict) → AreLayers (first ∷ others) ss → IsFirstBad (Some file ∷ others) i v → ⊥
    no_bad_one [] i v h bad = absurd h
    no_bad_one (s ∷ ss) i v h bad = none_is_bad file (saved made.0.layers) others ss i v made.2 h.1 bad

-- an engine of what was saved has no fault but want of memory
pub reopen_fault : {T : Type 0} (gives : BadDatabase → StoreFlaw → Type 0) (files : List MaybeBytes) (writable : Bool) (cs : List Change) (file : List ℕ) (P : StoreFlaw → Type 0)
    (r : Result T (Refused BadDatabase)) (d : Refused StoreFlaw) → IsSavedAfter files writable cs file → MatchResult r (λ x. Err d ≡ Ok x) (λ e. IsCarried gives e d) →
    IfErr r (OfFault (λ bad. IsFirstBad (with_first_file file files) bad.0 (verdict_of bad.1))) → OfFault P d
reopen_fault gives files writable cs file P r d made is h =
    IfErr-carried gives (λ bad. IsFirstBad (with_first_file file files) bad.0 (verdict_of bad.1)) P
    (λ bad flaw was first. absurd (none_bad files writable cs file made bad.0 (verdict_of bad.1) first)) r (Err d) is h

-- where `map_err` carries the errors of a result, a value stays
pub ok_carried : {T E F : Type 0} (gives : E → F → Type 0) (P : T → Type 0) (r : Result T E) (s : Result T F) → MatchResult r (λ x. s ≡ Ok x) (λ e. IsErrAnd s (gives e)) → IfOk r P → IfOk s P
ok_carried gives P r (Err d) is p = tt
ok_carried gives P (Ok x) (Ok y) is p =
    let same : x ≡ y = cc in
    subst P same p
ok_carried gives P (Err e) (Ok y) is p = absurd is

abbrev ok_layers : Layers → Result Layers (Refused StoreFlaw)
ok_layers m = Ok m

-- an engine of what was saved has its files' layers
pub opened_again : (files items : List MaybeBytes) (writable : Bool) (file : List ℕ) (r : Result Layers (Refused BadDatabase)) (m : Layers) → items ≡ with_first_file file files →
    MatchResult r (λ x. ok_layers m ≡ Ok x) (λ e. ⊥) → IfOk r (λ l. AreLayers items l.layers) → IfOk r (λ l. l.writable ≡ writable) → AreOpened (with_first_file file files) writable m
opened_again files items writable file r m same is layers writes = record {
  layers = ok_carried (λ e d. ⊥) (λ l. AreLayers (with_first_file file files) l.layers) r (ok_layers m) is (subst (λ items. IfOk r (λ l. AreLayers items l.layers)) same layers);
  writable = ok_carried (λ e d. ⊥) (λ l. l.writable ≡ writable) r (ok_layers m) is writes;
}
