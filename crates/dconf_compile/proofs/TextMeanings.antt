-- What reading a value's text gives is the value of the model, or its fault; and which values are stored.
use Rattle.std.proofs.Common.{◌≡◌, ◌<◌, ◌≤◌, ◌⊎◌, ℕ, Bool, true, false, ◌&&◌, List, length, Option, Some, None, Ok, Err, Result, refl, ap, sym, ◌∙◌, inl, inr}
use Rattle.std.proofs.Common.{IfErr, IsErrAnd, subst}
use Rattle.std.proofs.lemmas.Result.{err_from_is_err_and}
use Rattle.std.specs.Prelude.{IfSome, nat_lt, nat_le, cond}
use Rattle.std.proofs.lemmas.Bool.{lt-ltb, le-leb, lt-leb}
use Rattle.gv_model.specs.Tree.{Tree, depth}
use Rattle.gv_model.specs.Literals.{ValueFault as TheFault}
use Rattle.gv_syntax.specs.ModelTokens.{fault_at_span}
use Rattle.gv_infer.specs.Reads.{Reads, IsReadFlaw}
use Rattle.gv_infer.specs.ValueFaults.{fault_of}
use Rattle.gv_infer.specs.declared.fault.TypingFlaw.TheVariants.{NoCommonType, Ambiguous}
use Rattle.gv_infer.specs.declared.fault.ReadFlaw.{ReadFlaw}
use Rattle.gv_infer.specs.declared.fault.ReadFlaw.TheVariants.{Text, Typing, Value}
use Rattle.dconf_model.specs.Bytes.{longest_file}
use Rattle.dconf_model.specs.Causes.{SettingsCause}
use Rattle.dconf_model.specs.Causes.SettingsCause.{text_fault, value_fault, too_large}
use Rattle.dconf_model.specs.Values.{value_of_text, stored, if_storable}
use Rattle.dconf_model.proofs.ValueLaws.{computed}
use Rattle.dconf_compile.specs.Added.{text_compiled}
use Rattle.dconf_compile.specs.CompileFaults.{read_cause_of}
use Rattle.dconf_model.proofs.PathMaps.{and_false}

-- the fault of a step is that of the whole
pub stops : {A E : Type 0} (P : E → Type 0) (r : Result A E) (e : E) → P e → IsErrAnd r (λ y. y ≡ e) → IfErr r P
stops P r e h stop =
    let p = err_from_is_err_and r stop in
    rw p.1 (subst P (sym p.2) h)

pub value_read : (s : List ℕ) (v : Tree) → Reads s (Ok v) → value_of_text s ≡ Ok v
value_read s v h = computed s (Ok v) (h.syntax, h.tree, (h.type, h.chosen, h.value))

-- a fault is the text's, if it is one of the model
abbrev pub Faults : List ℕ → Option SettingsCause → Type 0
Faults s o = IfSome o (λ c. value_of_text s ≡ Err c)

pub fault_read : (s : List ℕ) (f : ReadFlaw) → IsReadFlaw s f → value_of_text s ≡ Err (read_cause_of f)
fault_read s (Text f) h = computed s (Err (text_fault (fault_at_span f.cause f.span))) h
fault_read s (Typing NoCommonType) h = computed s (Err (value_fault TheFault.no_common)) (h.syntax, h.tree, inl h.chosen)
fault_read s (Typing Ambiguous) h = computed s (Err (value_fault TheFault.not_clear)) (h.syntax, h.tree, inl h.chosen)
fault_read s (Value f) h = computed s (Err (value_fault (fault_of f))) (h.syntax, h.tree, inr (h.type, h.chosen, h.value))

-- the fault of a text is that of compiling it
pub text_refused : (s : List ℕ) (o : Option SettingsCause) → Faults s o → IfSome o (λ c. text_compiled s ≡ Err c)
text_refused s (Some c) h = ap if_storable h
text_refused s None h = tt

-- ---- values that are stored

pub text_stored : (s : List ℕ) (v : Tree) → value_of_text s ≡ Ok v → depth v < 128 → length (stored v) ≤ longest_file → text_compiled s ≡ Ok v
text_stored s v h levels fits =
    let d : nat_lt (depth v) 128 ≡ true = lt-ltb (depth v) 128 levels in
    let n : nat_le (length (stored v)) longest_file ≡ true = le-leb (length (stored v)) longest_file fits in
    ap if_storable h ∙ rw (d, n) refl

unstorable : (v : Tree) (a b : Bool) → (a && b) ≡ false → cond (a && b) (Ok v) (Err too_large) ≡ Err too_large
unstorable v a b e = rw e refl

pub text_too_large : (s : List ℕ) (v : Tree) → value_of_text s ≡ Ok v → (longest_file < length (stored v)) ⊎ (depth v ≡ 128) → text_compiled s ≡ Err too_large
text_too_large s v h why = ap if_storable h ∙ go why
  where
    go : (longest_file < length (stored v)) ⊎ (depth v ≡ 128) → if_storable (Ok v) ≡ Err too_large
    go (inl long) =
        unstorable v (nat_lt (depth v) 128) (nat_le (length (stored v)) longest_file)
        (and_false (nat_lt (depth v) 128) (nat_le (length (stored v)) longest_file) (lt-leb (length (stored v)) longest_file long))
    go (inr deep) = rw deep refl
