-- Basic bytes that are written so.
use Rattle.std.proofs.Common.{ℕ, suc, ◌≤◌, ◌≡◌, ◌≢◌, ◌↔◌, ◌+◌, ◌*◌, Bool, true, false, cond, ◌==◌, List, [], ◌∷◌, ◌++◌, length, Option, Some, None, refl, sym, ap, ap₂, ◌∙◌, subst, arith, eqb-true, IsTrue, nat_le, get_or, le-leb}
use Rattle.std.specs.Prelude.{option_map, option_and_then}
use Rattle.std.proofs.lemmas.Option.{none-some, same_Some, cond_some}
use Rattle.std.specs.Str.{is_utf8}
use Rattle.gv_model.specs.Ty.{Basic}
use Rattle.gv_model.specs.Ty.Ty.{basic}
use Rattle.gv_model.specs.Ty.Basic.{boolean, byte, int16, uint16, int32, uint32, int64, uint64, handle, double, string, path, signature}
use Rattle.gv_model.specs.Layout.{basic_size, or_one}
use Rattle.gv_model.specs.Tree.{Tree, depth, basic_default}
use Rattle.gv_model.specs.Tree.Tree.{number, text}
use Rattle.gv_model.specs.Texts.{is_text}
use Rattle.gv_model.specs.TypeText.{seen}
use Rattle.gv_model.specs.BasicValue.{basic_value, basic_of_size, bits_of, truth, number_in, text_in, text_or_default}
use Rattle.gv_model.specs.Decode.{decode}
use Rattle.gv_model.specs.Encode.{encode, number_bytes}
use Rattle.gv_model.specs.Normal.{IsEncoded}
use Rattle.gv_model.proofs.DecodeLaws.{decode_children}
use Rattle.gv_model.proofs.WellTyped.{IsBytes}
use Rattle.gv_model.proofs.EmptyLaws.{basic_size_pos}
use Rattle.gv_view.specs.Texts.{utf8_of, utf8_in}
use Rattle.gv_types.specs.Classes.{basic_of, basic_type}
use Rattle.gv_types.specs.declared.class.BasicType.{BasicType}
use Rattle.gv_types.specs.declared.class.BasicType.TheVariants as basics
use Rattle.gv_view.proofs.TextLemmas.{found_is_utf8, allowed}
use Rattle.gv_view.proofs.AsciiTexts.{ascii_is_utf8, path_is_utf8, signature_is_utf8}
use Rattle.gv_view.proofs.Numbers.{whole_number}
use Rattle.gv_normal.specs.InPlace.{IsNormalWithin}
use Rattle.gv_normal.proofs.Pieces.{number_back}

depth_basic : (k : Basic) (b : List ℕ) → depth (decode (basic k) b) ≡ 1
unfolding basic_value depth
depth_basic k b = ap depth (decode_children (basic k) b) ∙ sized (basic_size k)
  where
    default_depth : (k : Basic) → depth (basic_default k) ≡ 1
    default_depth string = refl
    default_depth path = refl
    default_depth signature = refl
    default_depth _ = refl

    pick : (c : Bool) (v : Tree) → depth v ≡ 1 → depth (cond c v (basic_default k)) ≡ 1
    pick true v h = h
    pick false v h = default_depth k

    of_text : (o : Option (List ℕ)) → depth (text_or_default k o) ≡ 1
    of_text None = default_depth k
    of_text (Some s) = pick (is_text k s) (text k s) refl

    sized : (f : Option ℕ) → depth (basic_of_size k b f) ≡ 1
    sized None = of_text (text_in b)
    sized (Some n) = pick (length b == n) (number k (bits_of k (number_in b))) refl

-- a basic value has one level
pub basic_within : (d : ℕ) (k : Basic) (b : List ℕ) → IsNormalWithin (suc d) (basic k) b ↔ IsEncoded (basic k) b
basic_within d k b = (λ h. h.written, λ h. record { written = h; shallow = omega (arith, depth_basic k b) })

-- ---- numbers

number_encoded : (k : Basic) (n m : ℕ) → basic_size k ≡ Some n → encode (number k m) ≡ number_bytes n m
unfolding encode
number_encoded k n m e = ap (λ (f : Option ℕ). number_bytes (or_one f) m) e

encoded_number : (k : Basic) (b : List ℕ) (n : ℕ) → basic_size k ≡ Some n → length b ≡ n → encode (decode (basic k) b) ≡ number_bytes n (bits_of k (number_in b))
encoded_number k b n e h = ap encode (whole_number k b n e h) ∙ number_encoded k n (bits_of k (number_in b)) e

-- all bytes of a number are as they are written, but for a boolean's
pub number_normal : (k : Basic) (b : List ℕ) (n : ℕ) → IsBytes b → basic_size k ≡ Some n → length b ≡ n → bits_of k (number_in b) ≡ number_in b → IsEncoded (basic k) b
number_normal k b n bytes e h same = sym (encoded_number k b n e h ∙ (ap (number_bytes n) same ∙ number_back n b (basic_size_pos k n e) h bytes))

pub other_bits : (k : Basic) → k ≢ boolean → (n : ℕ) → bits_of k n ≡ n
other_bits boolean h n = absurd (h refl)
other_bits byte h n = refl
other_bits int16 h n = refl
other_bits uint16 h n = refl
other_bits int32 h n = refl
other_bits uint32 h n = refl
other_bits int64 h n = refl
other_bits uint64 h n = refl
other_bits handle h n = refl
other_bits double h n = refl
other_bits string h n = refl
other_bits path h n = refl
other_bits signature h n = refl

pub boolean_normal : (x : ℕ) → IsEncoded (basic boolean) (x ∷ []) ↔ (x ≤ 1)
unfolding number_in number_bytes
boolean_normal x = (λ h. low (ap first (h ∙ encoded_number boolean (x ∷ []) 1 refl refl)), λ h. sym (encoded_number boolean (x ∷ []) 1 refl refl ∙ ap (λ (y : ℕ). y ∷ []) (same h)))
  where
    first : List ℕ → ℕ
    first [] = 0
    first (y ∷ ys) = y

    low : x ≡ truth (x + 256 * 0) → x ≤ 1
    low e = grind (arith, e)

    same : x ≤ 1 → truth (x + 256 * 0) ≡ x
    same h = grind (arith, h)

-- ---- texts

text_bytes : (b s : List ℕ) → text_in b ≡ Some s → b ≡ s ++ 0 ∷ []
unfolding text_in
text_bytes [] s h = absurd (none-some s h)
text_bytes (c ∷ []) s h = go (c == 0) refl h
  where
    go : (t : Bool) → (c == 0) ≡ t → cond t (Some []) None ≡ Some s → c ∷ [] ≡ s ++ 0 ∷ []
    go true e k = ap₂ (λ (x : ℕ) (xs : List ℕ). x ∷ []) (eqb-true c 0 e) (same_Some [] s k) ∙ ap (λ (xs : List ℕ). xs ++ 0 ∷ []) (same_Some [] s k)
    go false e k = absurd (none-some s k)
text_bytes (c ∷ d ∷ cs) s h = go (c == 0) h (text_bytes (d ∷ cs))
  where
    more : (o : Option (List ℕ)) → ((r : List ℕ) → o ≡ Some r → d ∷ cs ≡ r ++ 0 ∷ []) → option_map (λ r. c ∷ r) o ≡ Some s → c ∷ d ∷ cs ≡ s ++ 0 ∷ []
    more None rest k = absurd (none-some s k)
    more (Some r) rest k = ap (λ (xs : List ℕ). c ∷ xs) (rest r refl) ∙ ap (λ (xs : List ℕ). xs ++ 0 ∷ []) (same_Some (c ∷ r) s k)

    go : (t : Bool) → cond t None (option_map (λ r. c ∷ r) (text_in (d ∷ cs))) ≡ Some s → ((r : List ℕ) → text_in (d ∷ cs) ≡ Some r → d ∷ cs ≡ r ++ 0 ∷ []) → c ∷ d ∷ cs ≡ s ++ 0 ∷ []
    go true k rest = absurd (none-some s k)
    go false k rest = more (text_in (d ∷ cs)) rest k

text_read : (k : Basic) (b : List ℕ) → basic_size k ≡ None → decode (basic k) b ≡ text_or_default k (text_in b)
unfolding basic_value
text_read k b e = decode_children (basic k) b ∙ ap (basic_of_size k b) e

text_written : (k : Basic) (s : List ℕ) → encode (text k s) ≡ s ++ 0 ∷ []
unfolding encode
text_written k s = refl

pub text_encoded : (k : Basic) (b s : List ℕ) → basic_size k ≡ None → text_in b ≡ Some s → is_text k s ≡ true → IsEncoded (basic k) b
text_encoded k b s e h g =
    text_bytes b s h ∙ sym (ap encode (text_read k b e ∙ (ap (text_or_default k) h ∙ allowed k s g)) ∙ text_written k s)

-- a text of the type stands in the bytes
abbrev pub HasText : Basic → List ℕ → Type 0
HasText k b = (s : List ℕ) × ((text_in b ≡ Some s) × (is_text k s ≡ true))

default_has_text : (k : Basic) → basic_size k ≡ None → HasText k (encode (basic_default k))
unfolding encode text_in seen
default_has_text string e = ([], (refl, ascii_is_utf8 [] (λ i. omega arith)))
default_has_text path e = (47 ∷ [], (refl, refl))
default_has_text signature e = ([], (refl, refl))
default_has_text boolean e = absurd (none-some 1 (sym e))
default_has_text byte e = absurd (none-some 1 (sym e))
default_has_text int16 e = absurd (none-some 2 (sym e))
default_has_text uint16 e = absurd (none-some 2 (sym e))
default_has_text int32 e = absurd (none-some 4 (sym e))
default_has_text uint32 e = absurd (none-some 4 (sym e))
default_has_text handle e = absurd (none-some 4 (sym e))
default_has_text int64 e = absurd (none-some 8 (sym e))
default_has_text uint64 e = absurd (none-some 8 (sym e))
default_has_text double e = absurd (none-some 8 (sym e))

pub encoded_text : (k : Basic) (b : List ℕ) → basic_size k ≡ None → IsEncoded (basic k) b → HasText k b
encoded_text k b e h = go (text_in b) refl (text_read k b e)
  where
    by_default : decode (basic k) b ≡ basic_default k → HasText k b
    by_default same = subst (HasText k) (sym (h ∙ ap encode same)) (default_has_text k e)

    tested : (s : List ℕ) → text_in b ≡ Some s → (c : Bool) → is_text k s ≡ c → decode (basic k) b ≡ cond c (text k s) (basic_default k) → HasText k b
    tested s is true m read = (s, (is, m))
    tested s is false m read = by_default read

    go : (o : Option (List ℕ)) → text_in b ≡ o → decode (basic k) b ≡ text_or_default k o → HasText k b
    go None is read = by_default read
    go (Some s) is read = tested s is (is_text k s) refl read

texts_are_utf8 : (k : Basic) → basic_size k ≡ None → (s : List ℕ) → is_text k s ≡ true → is_utf8 s ≡ true
texts_are_utf8 string e s h = h
texts_are_utf8 path e s h = path_is_utf8 s h
texts_are_utf8 signature e s h = signature_is_utf8 s h
texts_are_utf8 boolean e s h = absurd (none-some 1 (sym e))
texts_are_utf8 byte e s h = absurd (none-some 1 (sym e))
texts_are_utf8 int16 e s h = absurd (none-some 2 (sym e))
texts_are_utf8 uint16 e s h = absurd (none-some 2 (sym e))
texts_are_utf8 int32 e s h = absurd (none-some 4 (sym e))
texts_are_utf8 uint32 e s h = absurd (none-some 4 (sym e))
texts_are_utf8 handle e s h = absurd (none-some 4 (sym e))
texts_are_utf8 int64 e s h = absurd (none-some 8 (sym e))
texts_are_utf8 uint64 e s h = absurd (none-some 8 (sym e))
texts_are_utf8 double e s h = absurd (none-some 8 (sym e))

-- by what the search for a text found
pub found_text : (k : Basic) (b s : List ℕ) → basic_size k ≡ None → Some s ≡ utf8_in b → (IsEncoded (basic k) b ↔ (is_text k s ≡ true))
found_text k b s e found = (λ h. let r = encoded_text k b e h in forth r, λ h. text_encoded k b s e there h)
  where
    plain : (o : Option (List ℕ)) → Some s ≡ option_and_then utf8_of o → o ≡ Some s
    plain None m = absurd (none-some s (sym m))
    plain (Some r) m = ap Some (cond_some (is_utf8 r) r s (sym m)).1

    there : text_in b ≡ Some s
    there = plain (text_in b) found

    forth : HasText k b → is_text k s ≡ true
    forth r = subst (λ (x : List ℕ). is_text k x ≡ true) (same_Some r.0 s (sym r.1.0 ∙ there)) r.1.1

pub no_text : (k : Basic) (b : List ℕ) → basic_size k ≡ None → None ≡ utf8_in b → IsEncoded (basic k) b → ⊥
no_text k b e none h =
    let r = encoded_text k b e h in
    let utf8 : utf8_in b ≡ Some r.0 = ap (option_and_then utf8_of) r.1.0 ∙ rw (texts_are_utf8 k e r.0 r.1.1) refl in
    absurd (none-some r.0 (none ∙ utf8))

-- ---- by the types as the code has them

one_byte : (b : List ℕ) → basic_size boolean ≡ Some (length b) → (IsTrue (nat_le (get_or b 0 0) 1) ↔ IsEncoded (basic boolean) b)
one_byte [] e = absurd (omega (arith, same_Some 1 0 e))
one_byte (x ∷ []) e = let law = boolean_normal x in (λ h. law.1 (grind (arith, h)), λ h. let low = law.0 h in le-leb x 1 low)
one_byte (x ∷ y ∷ b) e = absurd (omega (arith, same_Some 1 (suc (suc (length b))) e))

pub byte_normal : (of : BasicType) (b : List ℕ) → of ≡ basics.Boolean → basic_size (basic_of of) ≡ Some (length b) → (IsTrue (nat_le (get_or b 0 0) 1) ↔ IsEncoded (basic (basic_of of)) b)
byte_normal of b is e =
    subst (λ (k : BasicType). basic_size (basic_of k) ≡ Some (length b) → (IsTrue (nat_le (get_or b 0 0) 1) ↔ IsEncoded (basic (basic_of k)) b)) (sym is) (one_byte b) e

pub other_normal : (of : BasicType) (b : List ℕ) → IsBytes b → (of ≡ basics.Boolean → ⊥) → basic_size (basic_of of) ≡ Some (length b) → IsEncoded (basic (basic_of of)) b
other_normal of b bytes other e = number_normal (basic_of of) b (length b) bytes e refl (same of other (number_in b))
  where
    same : (of : BasicType) → (of ≡ basics.Boolean → ⊥) → (n : ℕ) → bits_of (basic_of of) n ≡ n
    same basics.Boolean h n = absurd (h refl)
    same basics.Byte h n = refl
    same basics.Int16 h n = refl
    same basics.Uint16 h n = refl
    same basics.Int32 h n = refl
    same basics.Uint32 h n = refl
    same basics.Int64 h n = refl
    same basics.Uint64 h n = refl
    same basics.Handle h n = refl
    same basics.Double h n = refl
    same basics.Text h n = refl
    same basics.ObjectPath h n = refl
    same basics.Signature h n = refl

-- a text at `s`: what was found is UTF-8
pub plain_text : (of : BasicType) (b s : List ℕ) → basic_size (basic_of of) ≡ None → (of ≡ basics.ObjectPath → ⊥) → (of ≡ basics.Signature → ⊥) → Some s ≡ utf8_in b → IsEncoded (basic (basic_of of)) b
plain_text basics.Text b s e o g found = (found_text string b s refl found).1 (found_is_utf8 b s found)
plain_text basics.ObjectPath b s e o g found = absurd (o refl)
plain_text basics.Signature b s e o g found = absurd (g refl)
plain_text basics.Boolean b s e o g found = absurd (none-some 1 (sym e))
plain_text basics.Byte b s e o g found = absurd (none-some 1 (sym e))
plain_text basics.Int16 b s e o g found = absurd (none-some 2 (sym e))
plain_text basics.Uint16 b s e o g found = absurd (none-some 2 (sym e))
plain_text basics.Int32 b s e o g found = absurd (none-some 4 (sym e))
plain_text basics.Uint32 b s e o g found = absurd (none-some 4 (sym e))
plain_text basics.Handle b s e o g found = absurd (none-some 4 (sym e))
plain_text basics.Int64 b s e o g found = absurd (none-some 8 (sym e))
plain_text basics.Uint64 b s e o g found = absurd (none-some 8 (sym e))
plain_text basics.Double b s e o g found = absurd (none-some 8 (sym e))

pub text_of_kind : (of : BasicType) (k : Basic) (b s : List ℕ) (r : Bool) → of ≡ basic_type k → basic_size k ≡ None → Some s ≡ utf8_in b → r ≡ is_text k s → (IsTrue r ↔ IsEncoded (basic (basic_of of)) b)
text_of_kind of k b s r is e found same =
    let law = found_text k b s e found in
    let kind : basic_of of ≡ k = ap basic_of is ∙ back k in
    (λ h. subst (λ (j : Basic). IsEncoded (basic j) b) (sym kind) (law.1 (sym same ∙ h)), λ h. same ∙ law.0 (subst (λ (j : Basic). IsEncoded (basic j) b) kind h))
  where
    back : (k : Basic) → basic_of (basic_type k) ≡ k
    back boolean = refl
    back byte = refl
    back int16 = refl
    back uint16 = refl
    back int32 = refl
    back uint32 = refl
    back int64 = refl
    back uint64 = refl
    back handle = refl
    back double = refl
    back string = refl
    back path = refl
    back signature = refl
