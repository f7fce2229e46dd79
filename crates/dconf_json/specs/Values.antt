-- A value in JSON (RFC 8259): its GVariant text as a string. A value without one, such as a double, is an object of its type's text and of its
-- bytes, which are serialised as the GVariant specification says and written in hexadecimal digits. No value is `null`.
use Rattle.std.specs.Prelude.{◌≡◌, ◌⊎◌, ℕ, List, [], ◌∷◌, ◌++◌, Bool, true, false, Option, Some, None, codes, slice_get, if◌then◌else◌}
use Rattle.json.specs.Token.{Token, begin_object, end_object, key, null, string}
use Rattle.hex.specs.Hex.{encode_lower}
use Rattle.gv_model.specs.Ty.{Ty, spelling}
use Rattle.gv_model.specs.Ty.Ty.{variant}
use Rattle.gv_model.specs.Tree.{Tree}
use Rattle.gv_model.specs.Decode.{decode, cut}
use Rattle.gv_model.specs.Children.{Child, child_bytes}
use Rattle.gv_model.specs.Printed.{holds_double, is_too_large, printed}
use Rattle.dconf_model.specs.Values.{held_value}

-- a member that is a string
abbrev pub text_member : List ℕ → List ℕ → List Token
text_member name text = key name ∷ (string text ∷ [])

-- one that may be none
abbrev pub text_or_null : Option (List ℕ) → List Token
text_or_null None = null ∷ []
text_or_null (Some text) = string text ∷ []

abbrev pub typed_tokens : Ty → List ℕ → List Token
typed_tokens t bytes = begin_object ∷ (text_member (codes "type") (spelling t) ++ (text_member (codes "bytes") (encode_lower bytes) ++ end_object ∷ []))

-- one that holds a double is left out if doubles are skipped
abbrev pub double_tokens : Bool → Ty → List ℕ → List Token
double_tokens skips t bytes = if skips then null ∷ [] else typed_tokens t bytes

-- a value, which these bytes are at this type
abbrev pub tree_tokens : Bool → Tree → Ty → List ℕ → List Token
tree_tokens skips v t bytes =
    if is_too_large v then typed_tokens t bytes else if holds_double v then double_tokens skips t bytes else string (printed v true) ∷ []

abbrev pub child_tokens : Bool → List ℕ → Option Child → List Token
child_tokens skips bytes None = null ∷ []
child_tokens skips bytes (Some c) = tree_tokens skips (decode c.type (child_bytes bytes c)) c.type (child_bytes bytes c)

-- the value that the bytes of a variant hold, if there are any
abbrev pub value_tokens : Bool → Option (List ℕ) → List Token
value_tokens skips None = null ∷ []
value_tokens skips (Some bytes) = child_tokens skips bytes (slice_get (cut variant bytes) 0)

-- ---- law

-- a value's text, or a type and the bytes that have the value at that type
abbrev pub Tells : Tree → List Token → Type 0
Tells v ts = (ts ≡ string (printed v true) ∷ []) ⊎ ((t : Ty) × (bytes : List ℕ) × (ts ≡ typed_tokens t bytes) × (decode t bytes ≡ v))

-- Unless doubles are skipped, whoever reads it has the value.
abbrev pub WhatIsToldIsTheValue : Type 0
WhatIsToldIsTheValue = (bytes : List ℕ) (v : Tree) → held_value bytes ≡ Some v → Tells v (value_tokens false (Some bytes))
