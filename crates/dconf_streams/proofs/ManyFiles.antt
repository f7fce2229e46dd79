-- What a command decides by several files, which it reads one after the other.
use Rattle.std.proofs.Common.{◌≡◌, ◌+◌, ◌++◌, ◌∷◌, ◌∙◌, inl, inr, ℕ, List, [], length, map, refl, sym, ap, subst, arith}
use Rattle.std.specs.Prelude.{Err, vec_items}
use Rattle.dconf_folders.specs.declared.folder.Folder.{Ghosts}
use Rattle.dconf_model.specs.Folders.{Event}
use Rattle.dconf_model.specs.Outcomes.{Outcome, WithFile, WithFiles}
use Rattle.dconf_model.specs.Reads.{ReadResults}
use Rattle.dconf_model.specs.Reads.FileRead.{holds}
use Rattle.dconf_model.specs.Sources.{Source}
use Rattle.refused.specs.declared.Refused.TheVariants.{Memory}
use Rattle.dconf_streams.specs.Answers.{Answered}
use Rattle.dconf_streams.specs.Readings.{AllRead, AreReadFrom, BreaksAt, Decides, Gave, HasRead, NoSources, Nothing, Reading, Tells, held_read, named_source, named_sources, one_read, reads_of}
use Rattle.dconf_streams.specs.declared.folder_files.NamedFile.{NamedFile}
use Rattle.dconf_streams.proofs.Decisions.{answers_also, kept_both, not_failed, nothing_is_any}

-- ---- one list of reads after another

gave_apart : (reads : ReadResults) (n : ℕ) (xs ys : List Reading) → Gave reads n (xs ++ ys) → Gave reads n xs × Gave reads (n + length xs) ys
gave_apart reads n [] ys gave = let same : n ≡ n + 0 = omega arith in (tt, subst (λ (k : ℕ). Gave reads k ys) same gave)
gave_apart reads n (x ∷ xs) ys gave =
    let rest = gave_apart reads (n + 1) xs ys gave.1 in
    let same : n + 1 + length xs ≡ n + length (x ∷ xs) = omega arith in
    ((gave.0, rest.0), subst (λ (k : ℕ). Gave reads k ys) same rest.1)

pub are_together : (es : List Event) (xs ys : List Reading) → AreReadFrom es xs → AreReadFrom es ys → AreReadFrom es (xs ++ ys)
are_together es [] ys first later = later
are_together es (x ∷ xs) ys first later = (first.0, are_together es xs ys first.1 later)

all_together : (xs ys : List Reading) → AllRead xs → AllRead ys → AllRead (xs ++ ys)
all_together [] ys first later = later
all_together (x ∷ xs) ys first later = (first.0, all_together xs ys first.1 later)

breaks_later : (xs ys : List Reading) (name : List ℕ) → AllRead xs → BreaksAt ys name → BreaksAt (xs ++ ys) name
breaks_later [] ys name first broken = broken
breaks_later (x ∷ xs) ys name first broken = go (xs ++ ys) (breaks_later xs ys name first.1 broken)
  where
    go : (more : List Reading) → BreaksAt more name → BreaksAt (x ∷ more) name
    go [] b = absurd b
    go (y ∷ more) b = (first.0, b)

tells_later : (old mid new : ℕ) (xs ys : List Reading) (answer : Answered) → AllRead xs → mid ≡ old → Tells mid new ys answer → Tells old new (xs ++ ys) answer
tells_later old mid new xs ys answer first same (inl all) = inl (all_together xs ys first all.0, all.1 ∙ same)
tells_later old mid new xs ys answer first same (inr broken) =
    inr (broken.0, breaks_later xs ys broken.0 first broken.1, rw (sym same) broken.2, broken.3)

-- ---- files that were read

pub all_read : (files : List Source) → AllRead (reads_of files)
all_read [] = tt
all_read (s ∷ files) = (not_failed s.bytes, all_read files)

pub length_reads : (files : List Source) → length (reads_of files) ≡ length files
length_reads [] = refl
length_reads (s ∷ files) = let rest = length_reads files in omega arith

-- after these, what is made of the others
with_others : (reads : ReadResults) (n : ℕ) (files : List Source) (others : List (List ℕ)) (Go : List Source → Outcome → Type 0) (o : Outcome)
    → Gave reads n (reads_of files) → WithFiles reads (n + length files) others (λ more. Go (files ++ more)) o
    → WithFiles reads n (map (λ s. s.name) files ++ others) Go o
with_others reads n [] others Go o gave h = let same : n + 0 ≡ n = omega arith in subst (λ (k : ℕ). WithFiles reads k others Go o) same h
with_others reads n (s ∷ files) others Go o gave h =
    let same : n + length (s ∷ files) ≡ n + 1 + length files = omega arith in
    rw gave.0 (with_others reads (n + 1) files others (λ more. Go (s ∷ more)) o gave.1
    (subst (λ (k : ℕ). WithFiles reads k others (λ more. Go (s ∷ (files ++ more))) o) same h))

-- ---- the loop that reads them

-- the names of the files that were read, and then those that are left
abbrev pub names_then : List NamedFile → List (List ℕ) → List (List ℕ)
names_then files rest = map (λ s. s.name) (named_sources files) ++ rest

pub one_named_more : (files : List NamedFile) (file : NamedFile) (rest : List (List ℕ)) → names_then (files ++ file ∷ []) rest ≡ names_then files (file.name.now ∷ rest)
one_named_more [] file rest = refl
one_named_more (f ∷ files) file rest = ap (λ (ns : List (List ℕ)). f.name.now ∷ ns) (one_named_more files file rest)

module _ {F : Type 0} (ghosts : Ghosts F) where
  pub one_read_more : (old mid new : F) (files : List NamedFile) (file : NamedFile) → HasRead ghosts old mid (reads_of (named_sources files))
      → HasRead ghosts mid new (one_read file.name.now (holds (vec_items file.bytes)))
      → HasRead ghosts old new (reads_of (named_sources (files ++ file ∷ [])))
  one_read_more old mid new files file h one = record {
    kept = kept_both ghosts old mid new h.kept one.kept;
    known = λ t es is.
        let first = h.known (one.kept.honest t) es is in
        let later = one.known t es (h.kept.past es is) in
        subst (λ (log : List Reading). AreReadFrom es log) (sym (reads_and_one files)) (are_together es (reads_of (named_sources files)) _ first later);
    none_failed = one.none_failed ∙ h.none_failed;
  }
    where
      reads_and_one : (fs : List NamedFile)
          → reads_of (named_sources (fs ++ file ∷ [])) ≡ reads_of (named_sources fs) ++ one_read file.name.now (holds (vec_items file.bytes))
      reads_and_one [] = refl
      reads_and_one (f ∷ fs) = ap (λ (log : List Reading). held_read (named_source f) ∷ log) (reads_and_one fs)

-- ---- decisions

module _ {F : Type 0} (ghosts : Ghosts F) where
  -- after other reads, none of which failed
  pub decides_later : (old mid new : F) (n : ℕ) (log : List Reading) (answer : Answered) (Makes Also : ReadResults → Outcome → Type 0)
      → HasRead ghosts old mid log → AllRead log → ((reads : ReadResults) → Gave reads n log → (o : Outcome) → Makes reads o → Also reads o)
      → Decides ghosts mid new (n + length log) Makes answer → Decides ghosts old new n Also answer
  decides_later old mid new n log answer Makes Also h all also d = record {
    log = log ++ d.log;
    kept = kept_both ghosts old mid new h.kept d.kept;
    known = λ t es is. are_together es log d.log (h.known (d.kept.honest t) es is) (d.known t es (h.kept.past es is));
    tells = tells_later (ghosts.failed old) (ghosts.failed mid) (ghosts.failed new) log d.log answer all h.none_failed d.tells;
    answers = λ reads gave.
        let apart = gave_apart reads n log d.log gave in
        answers_also answer (Makes reads) (Also reads) (also reads apart.0) (d.answers reads apart.1);
  }

  -- one that can't be read, after these
  pub decides_at_file : (old mid new : F) (n : ℕ) (files : List Source) (name : List ℕ) (names others : List (List ℕ)) (answer : Answered)
      → map (λ s. s.name) files ++ name ∷ others ≡ names → HasRead ghosts old mid (reads_of files)
      → ((k : ℕ) → Decides ghosts mid new k (λ reads. WithFile reads k name Nothing) answer)
      → Decides ghosts old new n (λ reads. WithFiles reads n names NoSources) answer
  decides_at_file old mid new n files name names others answer named h d =
      let k = n + length (reads_of files) in
      decides_later old mid new n (reads_of files) answer (λ reads. WithFile reads k name Nothing) (λ reads. WithFiles reads n names NoSources) h (all_read files)
      (λ reads gave o refusal. subst (λ (ns : List (List ℕ)). WithFiles reads n ns NoSources o) named
      (with_others reads n files (name ∷ others) NoSources o gave
      (subst (λ (i : ℕ). WithFiles reads (n + i) (name ∷ others) NoSources o) (length_reads files)
      (nothing_is_any name (reads k name) (λ bytes. WithFiles reads (k + 1) others NoSources) o refusal)))) (d k)

  -- no memory, after these
  pub decides_out_of_memory : (old mid new : F) (n : ℕ) (files : List Source) (Makes : ReadResults → Outcome → Type 0)
      → HasRead ghosts old mid (reads_of files) → HasRead ghosts mid new [] → Decides ghosts old new n Makes (Err Memory)
  decides_out_of_memory old mid new n files Makes h later =
      decides_later old mid new n (reads_of files) (Err Memory) Makes Makes h (all_read files) (λ reads gave o m. m)
      (record { log = []; kept = later.kept; known = later.known; tells = inl (tt, later.none_failed); answers = λ reads gave. tt })
