-- Which fault of the model a fault of compiling is, if it is one of the files, and how it is printed.
use Rattle.std.specs.Prelude.{◌≡◌, ℕ, List, Option, Some, None, Result, Err, IfSome, codes, option_map, unwrap_or}
use Rattle.dconf_model.specs.Causes.{SettingsCause}
use Rattle.dconf_model.specs.Causes.SettingsCause.{too_big, not_utf8, bad_line, no_group, bad_group, bad_key_name, lock_not_key, path_fault, text_fault, value_fault, too_large}
use Rattle.dconf_model.specs.FaultTexts.{cause_text}
use Rattle.dconf_model.specs.Paths.PathFault.{too_long}
use Rattle.dconf_model.specs.Sources.{File, FileFault}
use Rattle.dconf_model.specs.Sources.File.{keyfile, lock_file}
use Rattle.gv_syntax.specs.ModelTokens.{fault_at_span}
use Rattle.gv_infer.specs.ValueFaults.{fault_of as value_fault_of, value_flaw}
use Rattle.gv_infer.specs.declared.fault.ReadFlaw.{ReadFlaw}
use Rattle.gv_infer.specs.declared.fault.ReadFlaw.TheVariants as texts
use Rattle.dconf_compile.specs.declared.fault.FileRef.{FileRef}
use Rattle.dconf_compile.specs.declared.fault.FileRef.TheVariants.{Keyfile, LockFile, Whole}
use Rattle.dconf_compile.specs.declared.fault.CompileCause.{CompileCause}
use Rattle.dconf_compile.specs.declared.fault.CompileCause.TheVariants.{TooBig, NotUtf8, BadLine, NoGroup, BadGroup, BadKeyName, LockNotKey, TooLong, Value, TooLarge, Memory}
use Rattle.dconf_compile.specs.declared.fault.CompileFault.{CompileFault}

-- ---- causes; running out of memory is never the files' fault

abbrev pub read_cause_of : ReadFlaw → SettingsCause
read_cause_of (texts.Text f) = text_fault (fault_at_span f.cause f.span)
read_cause_of (texts.Typing f) = value_fault (value_fault_of (value_flaw f))
read_cause_of (texts.Value f) = value_fault (value_fault_of f)

abbrev pub cause_of : CompileCause → Option SettingsCause
cause_of TooBig = Some too_big
cause_of NotUtf8 = Some not_utf8
cause_of BadLine = Some bad_line
cause_of NoGroup = Some no_group
cause_of BadGroup = Some bad_group
cause_of BadKeyName = Some bad_key_name
cause_of LockNotKey = Some lock_not_key
cause_of TooLong = Some (path_fault too_long)
cause_of (Value f) = Some (read_cause_of f)
cause_of TooLarge = Some too_large
cause_of Memory = None

abbrev pub compile_cause_text : CompileCause → List ℕ
compile_cause_text cause = unwrap_or (option_map cause_text (cause_of cause)) (codes "Memory")

-- ---- faults of files

abbrev pub file_of : FileRef → Option File
file_of (Keyfile i) = Some (keyfile i)
file_of (LockFile i) = Some (lock_file i)
file_of Whole = None

abbrev pub fault_at : Option File → ℕ → Option SettingsCause → Option FileFault
fault_at file line None = None
fault_at None line (Some cause) = None
fault_at (Some file) line (Some cause) = Some (record { file = file; line = line; cause = cause })

abbrev pub fault_of : CompileFault → Option FileFault
fault_of e = fault_at (file_of e.file) e.line (cause_of e.cause)

-- what is answered for want of memory
abbrev pub no_memory : CompileFault
no_memory = record { file = Whole; line = 0; cause = Memory }

-- what is read ended with that fault, unless a growth was refused
pub record StopsAt {X : Type 0} (reading : Result X FileFault) (e : CompileFault) : Type 0 where
  pub fault : IfSome (fault_of e) (λ fault. reading ≡ Err fault)
  pub memory : fault_of e ≡ None → e ≡ no_memory
