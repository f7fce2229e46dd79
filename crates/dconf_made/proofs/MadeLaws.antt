-- What a database has already of changes that are asked for, one after another.
use Rattle.std.specs.Prelude.{◌↔◌, IfOk, IsTrue, slice_get}
use Rattle.std.proofs.Common.{◌≡◌, ◌+◌, ◌<◌, ◌≤◌, ◌++◌, ◌∷◌, [], ◌∙◌, ◌⊎◌, ℕ, Bool, true, false, List, Result, Ok, Err, Some, length, get_or, ap, sym, subst, subst₂, refl, inl, inr, arith}
use Rattle.std.proofs.lemmas.Bool.{cases_lt}
use Rattle.std.proofs.lemmas.Option.{get_or_from_slice_get, slice_get-get_or, slice_get_within}
use Rattle.dconf_model.specs.Layers.{Layers, all_paths}
use Rattle.dconf_model.specs.Paths.{ends_with_slash}
use Rattle.dconf_model.specs.Settings.{Settings}
use Rattle.dconf_model.specs.Walks.{keys_below}
use Rattle.dconf_layers.specs.LayerSettings.{settings_of}
use Rattle.dconf_layers.specs.declared.layer.Layer.{Layer}
use Rattle.dconfdb_calls.specs.Changed.{IsNoChange}
use Rattle.dconfdb_calls.specs.Given.{IsDirectory}
use Rattle.dconfdb_calls.specs.Listed.{ended}
use Rattle.dconfdb_calls.specs.Seen.{layers_of}
use Rattle.dconfdb_calls.specs.declared.changes.DconfdbChange.{DconfdbChange}
use Rattle.dconfdb_calls.specs.declared.fault.Fault.{Fault}
use Rattle.dconfdb_calls.specs.declared.fault.Fault.TheVariants.{Memory, Short, BadSignature, BadVersion, BadRoot, BadTable, Unsound, NotText, BadLine, ServiceDb, UserNotFirst, TooMany, BadPath, BadType, NotWritable, Locked, TooLarge, TooBig, BadValue}
use Rattle.dconf_made.specs.Made.{AreMade, Has, HasAs, HasNoneBelow, IsMade, IsNoChangeOf, named_at}

-- each before this index is there
abbrev pub MadeBefore : Layers → List DconfdbChange → ℕ → Type 0
MadeBefore l changes at = (i : ℕ) (c : DconfdbChange) → i < at → slice_get changes i ≡ Some c → IsMade l c

pub none_before : (l : Layers) (changes : List DconfdbChange) → MadeBefore l changes 0
none_before l changes i c less is = absurd (omega (arith, less))

pub one_more : (l : Layers) (changes : List DconfdbChange) (at : ℕ) (d : DconfdbChange) → MadeBefore l changes at → IsMade l (get_or changes at d) → MadeBefore l changes (at + 1)
one_more l changes at d before made i c within is =
    elim (cases_lt i at) [
      | inl less ↦ before i c less is
      | inr here ↦
          (let same : i ≡ at = omega (arith, within, here) in
          subst (λ (x : DconfdbChange). IsMade l x) (ap (λ (j : ℕ). get_or changes j d) (sym same) ∙ get_or_from_slice_get changes i c d is) made)
    ]

pub all_made : (l : Layers) (changes : List DconfdbChange) (at : ℕ) → length changes ≤ at → MadeBefore l changes at → AreMade l changes
all_made l changes at end before i c is = before i c (let within = slice_get_within changes i c is in omega (arith, within, end)) is

pub one_not : (l : Layers) (changes : List DconfdbChange) (at : ℕ) (d : DconfdbChange) → at < length changes → ¬ IsMade l (get_or changes at d) → ¬ AreMade l changes
one_not l changes at d within not all = not (all at (get_or changes at d) (slice_get-get_or changes at d within))

-- no bytes list no texts
pub none_ended : (texts : List (List ℕ)) → ended texts ≡ [] → texts ≡ []
none_ended [] e = refl
none_ended (t ∷ ts) e = absurd (some_ended t e)
  where
    some_ended : (t : List ℕ) → (t ++ 0 ∷ []) ++ ended ts ≡ [] → ⊥
    some_ended [] e = cc
    some_ended (b ∷ bs) e = cc

pub told_below : (s : Settings) (bytes directory : List ℕ) (is : Bool) → IsDirectory directory → bytes ≡ ended (keys_below (all_paths (s ∷ [])) directory) → IsTrue is ↔ (bytes ≡ []) →
    IsTrue is ↔ HasNoneBelow s directory
told_below s bytes directory is good e h = (
  λ yes known. none_ended (keys_below (all_paths (s ∷ [])) directory) (sym e ∙ h.0 yes),
  λ none. h.1 (e ∙ ap (λ (ts : List (List ℕ)). ended ts) (none good)),
)

-- one that sets nothing, of a directory
pub as_directory : (r : Result Bool Fault) (s : Settings) (c : DconfdbChange) → c.sets ≡ false → ends_with_slash c.path.now ≡ true →
    IfOk r (λ is. IsTrue is ↔ HasNoneBelow s c.path.now) → IfOk r (λ is. IsTrue is ↔ Has s c)
as_directory r s c none slash h =
    subst₂ (λ (a b : Bool). IfOk r (λ is. IsTrue is ↔ HasAs a b s c)) (sym none) (sym slash) h

-- of the first
pub as_first : (r : Result Bool Fault) (layers more : List Layer) (own : Layer) (writable : Bool) (c : DconfdbChange) → layers ≡ own ∷ more → writable ≡ true →
    IfOk r (λ is. IsTrue is ↔ Has (settings_of own) c) → IfOk r (λ is. IsTrue is ↔ IsMade (layers_of layers writable) c)
as_first (Err e) layers more own writable c is may h = h
as_first (Ok made) layers more own writable c is may h =
    subst₂ (λ (ls : List Layer) (b : Bool). IsTrue made ↔ IsMade (layers_of ls b) c) (sym is) (sym may) ((λ yes. (refl, h.0 yes)), (λ has. h.1 has.1))

-- each is there, or the bytes are the same
pub either_same : (l : Layers) (changes : List DconfdbChange) (are is : Bool) (bytes items old : List ℕ) → bytes ≡ items → IsTrue are ↔ AreMade l changes →
    IsTrue is ↔ (IsTrue are ⊎ (bytes ≡ old)) → IsTrue is ↔ (AreMade l changes ⊎ (items ≡ old))
either_same l changes are is bytes items old e made h = (
  λ yes. elim (h.0 yes) [ inl a ↦ inl (made.0 a) | inr b ↦ inr (sym e ∙ b) ],
  λ any. elim any [ inl a ↦ h.1 (inl (made.1 a)) | inr b ↦ h.1 (inr (e ∙ b)) ],
)

-- ---- the change at fault

pub named : (l : Layers) (changes : List DconfdbChange) (fault : Fault) (at : ℕ) → IsNoChange l changes fault at → IsNoChangeOf l changes fault (named_at fault at (length changes))
named l changes Memory at h = refl
named l changes TooBig at h = (h.0, refl)
named l changes Short at h = h
named l changes BadSignature at h = h
named l changes BadVersion at h = h
named l changes BadRoot at h = h
named l changes BadTable at h = h
named l changes Unsound at h = h
named l changes NotText at h = h
named l changes BadLine at h = h
named l changes ServiceDb at h = h
named l changes UserNotFirst at h = h
named l changes TooMany at h = h
named l changes BadPath at h = h
named l changes BadType at h = h
named l changes NotWritable at h = h
named l changes Locked at h = h
named l changes TooLarge at h = h
named l changes BadValue at h = h

pub fault_of_memory : (l : Layers) (changes : List DconfdbChange) (fault : Fault) (at : ℕ) → fault ≡ Memory → at ≡ length changes → IsNoChangeOf l changes fault at
fault_of_memory l changes fault at is count = subst (λ (f : Fault). IsNoChangeOf l changes f at) (sym is) count
