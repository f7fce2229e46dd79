-- What counts of a file: whichever program counts, it says the same settings.
use Rattle.std.proofs.Common.{◌≡◌, ◌⊎◌, ◌∙◌, ◌<◌, ◌-◌, ◌*◌, inl, inr, ℕ, List, Option, Some, None, sym, ap, subst, arith}
use Rattle.std.specs.FinMap.{get}
use Rattle.dconf_model.specs.Bytes.{MaybeBytes, u32_at}
use Rattle.dconf_model.specs.Databases.{IsBad, IsDatabaseOf, IsGood, IsLayer, IsTooBig, Verdict}
use Rattle.dconf_model.specs.Opening.{IsOpenFault, OpenFault, root_of}
use Rattle.dconf_model.specs.Table.{item_count}
use Rattle.dconf_model.specs.Salvaging.{IsSalvaged}
use Rattle.dconf_model.specs.Settings.{Settings}
use Rattle.dconf_model.proofs.DatabaseLaws.{at_paths, same_lock, same_option, says_one_thing, written_says_settings}
use Rattle.dconf_model.proofs.DatabasesGiven.{one_layer}
use Rattle.dconf_model.proofs.OnePlan.{one_length}
use Rattle.dconf_model.proofs.OpenLaws as opens
use Rattle.dconf_model.proofs.ProgramLaws.{not_bad}
use Rattle.dconfdb_calls.specs.Keyless.{IsFirstRoot, IsKeyless, IsRootPlace, with_empty_list}
use Rattle.dconfdb_calls.specs.Salvaged.{IsSalvageOf}
use Rattle.dconf_found.specs.FoundFolders.{Counts, CountsNothing, CountsSalvaged}
use Rattle.dconf_found.specs.declared.bad_databases.Loss.{Loss}
use Rattle.dconf_mended.specs.Mending.{HasNothing, IsMended}
use Rattle.dconf_mended.specs.declared.mended.Standing.{Standing}
use Rattle.dconf_mended.specs.declared.mended.Standing.TheVariants.{Whole, Saved, Nothing}
use Rattle.dconf_runs.specs.BadFiles.{CountsAs, CountsAreSound, FilesCountAlike, file_by}

-- ---- what is salvaged is one thing

salvaged_one : (file : List ℕ) (s t : Settings) → IsSalvaged file s → IsSalvaged file t → s ≡ t
salvaged_one file s t h k =
    let values = at_paths s.values t.values (λ q. same_option (get s.values q) (get t.values q)
    (λ x e. (k.values q x).1 ((h.values q x).0 e)) (λ x e. (h.values q x).1 ((k.values q x).0 e))) in
    let locks = at_paths s.locks t.locks (λ q. same_lock (get s.locks q) (get t.locks q)
    (λ there. (k.locks q).1 ((h.locks q).0 there)) (λ there. (h.locks q).1 ((k.locks q).0 there))) in
    λ i. record { values = values i; locks = locks i }

-- a database of what is salvaged says it
salvage_says : (file it : List ℕ) (s t : Settings) → IsSalvaged file s → IsDatabaseOf s it → IsLayer (Some it) t → t ≡ s
salvage_says file it s t salvaged written layer =
    says_one_thing it t s layer.2 (written_says_settings s it (λ path there. ((salvaged.locks path).0 there).0.1) written)

never_too_big : (s : Settings) (it : List ℕ) → IsDatabaseOf s it → IsTooBig s → ⊥
never_too_big s it written big =
    let same = one_length s _ big.0 written.size big.1 in
    let fits = written.fits in
    let over = big.2 in omega (arith, same, fits, over)

-- ---- the database that one without keys stands for is one

first_one : (file : List ℕ) (i j : ℕ) → IsFirstRoot (root_of file) i → IsFirstRoot (root_of file) j → i ≡ j
first_one file i j h k =
    let not_less : (i < j) → ⊥ = λ less. k.earlier i less h.is_root in
    let not_more : (j < i) → ⊥ = λ more. h.earlier j more k.is_root in
    omega (arith, not_less, not_more)

place_one : (file : List ℕ) (p q : ℕ) → IsRootPlace file p → IsRootPlace file q → p ≡ q
place_one file p q h k = let same = first_one file h.index k.index h.first k.first in h.place_is ∙ (ap (λ i. u32_at file 20 - 24 * (item_count (root_of file) - i)) same ∙ sym k.place_is)

keyless_one : (file it jt : List ℕ) → IsKeyless file it → IsKeyless file jt → it ≡ jt
keyless_one file it jt h k = h.mended_is ∙ (ap (with_empty_list file) (place_one file h.place k.place h.is_place k.is_place) ∙ sym k.mended_is)

-- ---- what counts of a bad file, whoever counts

data Kept (file : List ℕ) (it : MaybeBytes) : Type 0 where
  keyless : (mended : List ℕ) → IsKeyless file mended → it ≡ Some mended → Kept file it
  saved : (bytes : List ℕ) (keys locks : ℕ) → ((mended : List ℕ) → ¬ IsKeyless file mended) → IsSalvageOf file bytes keys locks → it ≡ Some bytes → Kept file it
  nothing : ((mended : List ℕ) → ¬ IsKeyless file mended) → HasNothing file → it ≡ None → Kept file it

-- or of any
abbrev Count : List ℕ → MaybeBytes → Type 0
Count file it = (IsGood (Some file) × (it ≡ Some file)) ⊎ (((v : Verdict) × IsBad (Some file) v) × Kept file it)

no_keyless : (file : List ℕ) (f : OpenFault) → IsOpenFault file f → (mended : List ℕ) → ¬ IsKeyless file mended
no_keyless file f is mended k = opens.no_database file f is k.is_place.opens

kept_mended : (file bytes : List ℕ) (standing : Standing) (keys locks : ℕ) (it : MaybeBytes) → IsMended file standing bytes keys locks → it ≡ file_by standing bytes
    → Kept file it
kept_mended file bytes Whole keys locks it h is = keyless bytes h.0 is
kept_mended file bytes Saved keys locks it h is = saved bytes keys locks h.0 h.1 is
kept_mended file bytes Nothing keys locks it h is = nothing h.0 h.1 is

kept_bad : (file : List ℕ) (it : MaybeBytes) (loss : Option Loss)
    → ((m : List ℕ) × IsKeyless file m × (it ≡ Some m) × (loss ≡ None)) ⊎ (CountsSalvaged file it loss ⊎ CountsNothing file it loss) → Kept file it
kept_bad file it loss (inl h) = keyless h.0 h.1 h.2
kept_bad file it loss (inr (inl h)) = saved h.it h.lost.keys h.lost.locks h.other h.salvaged h.counted_is
kept_bad file it loss (inr (inr h)) = nothing (no_keyless file h.fault h.none) (inl (h.fault, h.none)) h.counted_is

count_found : (file : List ℕ) (it : MaybeBytes) (loss : Option Loss) → Counts file it loss → Count file it
count_found file it loss (inl h) = inl (h.0, h.1)
count_found file it loss (inr h) = inr ((h.0, h.1), kept_bad file it loss h.2)

count_of : (file : List ℕ) (it : MaybeBytes) → CountsAs (Some file) it → Count file it
count_of file it (inl h) = count_found file it h.0 h.1
count_of file it (inr (inl h)) = inl h
count_of file it (inr (inr h)) = inr ((h.verdict, h.bad), kept_mended file h.bytes h.standing h.keys h.locks it h.mended h.it_is)

-- ---- it is a sound database, or none

kept_sound : (file : List ℕ) (it : MaybeBytes) → Kept file it → IsGood it
kept_sound file it (keyless m h is) = subst IsGood (sym is) h.good
kept_sound file it (saved bytes keys locks other h is) = subst IsGood (sym is) (h.written.file_is.opens, h.written.file_is.sound)
kept_sound file it (nothing other h is) = subst IsGood (sym is) tt

count_sound : (file : List ℕ) (it : MaybeBytes) → Count file it → IsGood it
count_sound file it (inl h) = subst IsGood (sym h.1) h.0
count_sound file it (inr h) = kept_sound file it h.1

pub counts_are_sound : CountsAreSound
counts_are_sound None it is = subst IsGood (sym is) tt
counts_are_sound (Some file) it is = count_sound file it (count_of file it is)

-- ---- and says the same

-- what is salvaged is too big to be written, or the file is no database
not_saved : (file bytes : List ℕ) (keys locks : ℕ) → IsSalvageOf file bytes keys locks → HasNothing file → ⊥
not_saved file bytes keys locks h (inl k) = opens.no_database file k.0 k.1 h.opens
not_saved file bytes keys locks h (inr k) =
    never_too_big h.settings bytes h.written.file_is (subst IsTooBig (salvaged_one file k.0 h.settings k.1 h.salvaged) k.2)

same_layer : (it jt : MaybeBytes) (s t : Settings) → it ≡ jt → IsLayer it s → IsLayer jt t → s ≡ t
same_layer it jt s t same a b = one_layer jt s t (subst (λ (x : MaybeBytes). IsLayer x s) same a) b

saved_alike : (file m n : List ℕ) (i j k l : ℕ) (s t : Settings) → IsSalvageOf file m i j → IsSalvageOf file n k l → IsLayer (Some m) s → IsLayer (Some n) t → s ≡ t
saved_alike file m n i j k l s t h g a b =
    salvage_says file m h.settings s h.salvaged h.written.file_is a
    ∙ (salvaged_one file h.settings g.settings h.salvaged g.salvaged ∙ sym (salvage_says file n g.settings t g.salvaged g.written.file_is b))

kept_alike : (file : List ℕ) (it jt : MaybeBytes) (s t : Settings) → Kept file it → Kept file jt → IsLayer it s → IsLayer jt t → s ≡ t
kept_alike file it jt s t (keyless m h is) (keyless n k js) a b = same_layer it jt s t (is ∙ (ap (λ (x : List ℕ). Some x) (keyless_one file m n h k) ∙ sym js)) a b
kept_alike file it jt s t (keyless m h is) (saved n i j other k js) a b = absurd (other m h)
kept_alike file it jt s t (keyless m h is) (nothing other k js) a b = absurd (other m h)
kept_alike file it jt s t (saved m i j other h is) (keyless n k js) a b = absurd (other n k)
kept_alike file it jt s t (saved m i j other h is) (saved n k l more g js) a b =
    saved_alike file m n i j k l s t h g (subst (λ (x : MaybeBytes). IsLayer x s) is a) (subst (λ (x : MaybeBytes). IsLayer x t) js b)
kept_alike file it jt s t (saved m i j other h is) (nothing more k js) a b = absurd (not_saved file m i j h k)
kept_alike file it jt s t (nothing other h is) (keyless n k js) a b = absurd (other n k)
kept_alike file it jt s t (nothing other h is) (saved n i j more k js) a b = absurd (not_saved file n i j k h)
kept_alike file it jt s t (nothing other h is) (nothing more k js) a b = same_layer it jt s t (is ∙ sym js) a b

count_alike : (file : List ℕ) (it jt : MaybeBytes) (s t : Settings) → Count file it → Count file jt → IsLayer it s → IsLayer jt t → s ≡ t
count_alike file it jt s t (inl h) (inl k) a b = same_layer it jt s t (h.1 ∙ sym k.1) a b
count_alike file it jt s t (inl h) (inr k) a b = absurd (not_bad (Some file) k.0.0 h.0 k.0.1)
count_alike file it jt s t (inr h) (inl k) a b = absurd (not_bad (Some file) h.0.0 k.0 h.0.1)
count_alike file it jt s t (inr h) (inr k) a b = kept_alike file it jt s t h.1 k.1 a b

pub files_count_alike : FilesCountAlike
files_count_alike None it jt s t is js a b = same_layer it jt s t (is ∙ sym js) a b
files_count_alike (Some file) it jt s t is js a b = count_alike file it jt s t (count_of file it is) (count_of file jt js) a b
