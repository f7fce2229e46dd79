-- What `compile` decides by the keyfiles and lock files, or by the first that can't be read.
use Rattle.std.proofs.Common.{◌≡◌, ◌+◌, ◌∷◌, ℕ, List, [], length, map, Option, Some, None, refl, sym, subst, arith}
use Rattle.std.specs.Prelude.{Err, IfSome}
use Rattle.dconf_folders.specs.declared.folder.Folder.{Ghosts}
use Rattle.dconf_model.specs.Databases.{IsCompiled}
use Rattle.dconf_model.specs.FaultTexts.{line_fault_text}
use Rattle.dconf_model.specs.Commands.Command.{compile}
use Rattle.dconf_model.specs.Outcomes.{Compiles, IsOutcome, OrNoRead, Outcome, Refused, WithFiles, file_name}
use Rattle.dconf_model.specs.Reads.{FileRead, Input, ReadResults}
use Rattle.dconf_model.specs.Reads.FileRead.{no_file, holds, over_size, failed}
use Rattle.dconf_model.specs.Sources.{FileFault, Source}
use Rattle.refused.specs.declared.Refused.TheVariants.{Memory}
use Rattle.dconf_streams.specs.Answers.{Answered, GivesOutcome, Refusal, RefusesFor}
use Rattle.dconf_streams.specs.Readings.{Decides, Gave, HasRead, NoSources, reads_of}
use Rattle.dconf_streams.proofs.Decisions.{answers_also, decides_also, decides_at_once}
use Rattle.dconf_streams.proofs.ManyFiles.{all_read, decides_later}

length_names : (files : List Source) → 0 + length (reads_of files) ≡ length (map (λ s. s.name) files)
length_names [] = refl
length_names (s ∷ files) = let rest = length_names files in omega arith

with_all : (reads : ReadResults) (n : ℕ) (files : List Source) (Go : List Source → Outcome → Type 0) (o : Outcome) → Gave reads n (reads_of files) → Go files o
    → WithFiles reads n (map (λ s. s.name) files) Go o
with_all reads n [] Go o gave g = g
with_all reads n (s ∷ files) Go o gave g = rw gave.0 (with_all reads (n + 1) files (λ more. Go (s ∷ more)) o gave.1 g)

-- a refusal before they are looked at
no_sources : (reads : ReadResults) (n : ℕ) (names : List (List ℕ)) (Go : List Source → Outcome → Type 0) (o : Outcome)
    → WithFiles reads n names NoSources o → WithFiles reads n names Go o
no_sources reads n [] Go o h = absurd h
no_sources reads n (name ∷ names) Go o h =
    go (reads n name) (λ bytes. no_sources reads (n + 1) names (λ more. Go (record { name = name; bytes = bytes } ∷ more)) o) h
  where
    go : (gave : FileRead)
        → ((bytes : List ℕ) → WithFiles reads (n + 1) names NoSources o
        → WithFiles reads (n + 1) names (λ more. Go (record { name = name; bytes = bytes } ∷ more)) o)
        → OrNoRead name gave (λ bytes. WithFiles reads (n + 1) names NoSources) o
        → OrNoRead name gave (λ bytes. WithFiles reads (n + 1) names (λ more. Go (record { name = name; bytes = bytes } ∷ more))) o
    go no_file each refusal = refusal
    go (holds bytes) each refusal = each bytes refusal
    go over_size each refusal = refusal
    go failed each refusal = refusal

module _ {F : Type 0} (ghosts : Ghosts F) where
  -- by the bytes of several files
  decides_by_files : (old new : F) (n : ℕ) (files : List Source) (answer : Answered) (Go : List Source → Outcome → Type 0)
      → HasRead ghosts old new (reads_of files) → GivesOutcome answer (Go files)
      → Decides ghosts old new n (λ reads. WithFiles reads n (map (λ s. s.name) files) Go) answer
  decides_by_files old new n files answer Go h is =
      decides_later ghosts old new new n (reads_of files) answer (λ reads. Go files) (λ reads. WithFiles reads n (map (λ s. s.name) files) Go) h (all_read files)
      (λ reads gave o g. with_all reads n files Go o gave g) (decides_at_once ghosts new _ answer (λ reads. Go files) (λ reads. is))

  -- without the bytes of several files
  decides_without_files : (old new : F) (n : ℕ) (names : List (List ℕ)) (answer : Answered) (Go : List Source → Outcome → Type 0)
      → Decides ghosts old new n (λ reads. WithFiles reads n names NoSources) answer
      → Decides ghosts old new n (λ reads. WithFiles reads n names Go) answer
  decides_without_files old new n names answer Go d =
      decides_also ghosts old new n answer (λ reads. WithFiles reads n names NoSources) (λ reads. WithFiles reads n names Go)
      (λ reads o h. no_sources reads n names Go o h) d

  module _ (out : List ℕ) (lock_names : List (List ℕ)) (names : List (List ℕ)) (answer : Answered) (input : Input) where
    abbrev AsCompile : F → F → Type 0
    AsCompile old new = Decides ghosts old new 0 (λ reads. IsOutcome (compile out lock_names names) reads input) answer

    pub compiles_no_files : (old new : F) → Decides ghosts old new 0 (λ reads. WithFiles reads 0 names NoSources) answer → AsCompile old new
    compiles_no_files old new d =
        decides_also ghosts old new 0 answer (λ reads. WithFiles reads 0 names NoSources) (λ reads. IsOutcome (compile out lock_names names) reads input)
        (λ reads o h. no_sources reads 0 names (λ files. WithFiles reads (length names) lock_names (Compiles out files)) o h) d

    module _ (old mid new : F) (files : List Source) (named : map (λ s. s.name) files ≡ names) (h : HasRead ghosts old mid (reads_of files)) where
      compiles_then : ((n : ℕ) → Decides ghosts mid new n (λ reads. WithFiles reads n lock_names (Compiles out files)) answer)
          → AsCompile old new
      compiles_then each =
          let n = 0 + length (reads_of files) in
          decides_later ghosts old mid new 0 (reads_of files) answer (λ reads. WithFiles reads n lock_names (Compiles out files))
          (λ reads. IsOutcome (compile out lock_names names) reads input) h (all_read files)
          (λ reads gave o g. subst (λ (ns : List (List ℕ)). WithFiles reads 0 ns (λ fs. WithFiles reads (length ns) lock_names (Compiles out fs)) o) named
          (with_all reads 0 files (λ fs. WithFiles reads (length (map (λ s. s.name) files)) lock_names (Compiles out fs)) o gave
          (subst (λ (k : ℕ). WithFiles reads k lock_names (Compiles out files) o) (length_names files) g))) (each n)

      pub compiles_no_locks : ((n : ℕ) → Decides ghosts mid new n (λ reads. WithFiles reads n lock_names NoSources) answer) → AsCompile old new
      compiles_no_locks d = compiles_then (λ n. decides_without_files mid new n lock_names answer (Compiles out files) (d n))

      pub compiles_all : (locks : List Source) → map (λ s. s.name) locks ≡ lock_names → HasRead ghosts mid new (reads_of locks)
          → GivesOutcome answer (Compiles out files locks) → AsCompile old new
      compiles_all locks is h_locks made =
          compiles_then (λ n. subst (λ (ns : List (List ℕ)). Decides ghosts mid new n (λ reads. WithFiles reads n ns (Compiles out files)) answer) is
          (decides_by_files mid new n locks answer (Compiles out files) h_locks made))

-- a fault of the files, or none where memory ran out
pub compile_refuses : (out : List ℕ) (files locks : List Source) (refusal : Refusal) (fault : Option FileFault) → IfSome fault (λ f. IsCompiled files locks (Err f))
    → IfSome fault (λ f. RefusesFor (Err refusal) (line_fault_text (file_name files locks f.file) f.line f.cause)) → (fault ≡ None → refusal ≡ Memory)
    → GivesOutcome (Err refusal) (Compiles out files locks)
compile_refuses out files locks refusal None is refuses failing = subst (λ (r : Refusal). GivesOutcome (Err r) (Compiles out files locks)) (sym (failing refl)) tt
compile_refuses out files locks refusal (Some f) is refuses failing =
    answers_also (Err refusal) (Refused (line_fault_text (file_name files locks f.file) f.line f.cause)) (Compiles out files locks) (λ o r. (Err f, is, r)) refuses
