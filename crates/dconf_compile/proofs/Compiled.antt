-- What is made of the settings that files give is what is compiled of the files.
use Rattle.std.proofs.Common.{◌≡◌, ℕ, List, map, Option, Some, Result, Ok, Err, refl, sym, ap, ◌∙◌, subst}
use Rattle.std.specs.Prelude.{IfSome}
use Rattle.std.specs.List.{enumerate_from}
use Rattle.dconf_model.specs.Causes.SettingsCause.{too_big}
use Rattle.dconf_model.specs.Databases.{IsCompiled, IsDatabaseOf, IsMadeOfGiven, IsTooBig}
use Rattle.dconf_model.specs.Lines.{read_file}
use Rattle.dconf_model.specs.Locks.{locks_in}
use Rattle.dconf_model.specs.Settings.{Settings}
use Rattle.dconf_model.specs.Sources.{FileFault, Given, and_locks, compiled, first_file, given, in_files, taken}
use Rattle.dconf_model.specs.Sources.File.{keyfile, lock_file}
use Rattle.dconf_compile.specs.CompileFaults.{fault_at, fault_of, file_of}
use Rattle.dconf_compile.specs.Sources.{AreGivenBy, given_by, numbered, sources_of}
use Rattle.dconf_compile.specs.declared.fault.CompileFault.{CompileFault}
use Rattle.dconf_compile.specs.declared.fault.FileRef.{FileRef}
use Rattle.dconf_compile.specs.declared.order.Numbered.{Numbered}
use Rattle.dconf_compile.specs.declared.source.Source.{Source}

module _ (order : List Numbered) (files locks : List Source) (in_order : map numbered order ≡ taken (sources_of files)) (s : Settings) (h : AreGivenBy (given_by order locks) s) where
  gives : given (sources_of files) (sources_of locks) ≡ Ok h.gives
  gives =
      ap (λ l. and_locks (in_files keyfile compiled l) (in_files lock_file (read_file locks_in) (enumerate_from 0 (sources_of locks)))) (sym in_order) ∙ h.read

  pub made : (bytes : List ℕ) → IsDatabaseOf s bytes → IsCompiled (sources_of files) (sources_of locks) (Ok bytes)
  made bytes d =
      subst (λ (r : Result Given FileFault). IsMadeOfGiven r (first_file (taken (sources_of files))) (Ok bytes)) (sym gives) (s, h.settings, d)

  pub too_big_made : (e : CompileFault) (file : FileRef) → fault_of e ≡ fault_at (file_of file) 0 (Some too_big) → file_of file ≡ Some (first_file (taken (sources_of files))) → IsTooBig s →
      IfSome (fault_of e) (λ f. IsCompiled (sources_of files) (sources_of locks) (Err f))
  too_big_made e file is first big =
      let first_of = first_file (taken (sources_of files)) in
      let fault : FileFault = record { file = first_of; line = 0; cause = too_big } in
      subst (λ (o : Option FileFault). IfSome o (λ f. IsCompiled (sources_of files) (sources_of locks) (Err f))) (sym (is ∙ ap (λ o. fault_at o 0 (Some too_big)) first))
      (subst (λ (r : Result Given FileFault). IsMadeOfGiven r first_of (Err fault)) (sym gives) (s, h.settings, (big, refl)))
