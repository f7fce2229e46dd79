-- The type at the start of bytes, cut off from what follows it.
use Rattle.std.proofs.Common.{ℕ, ◌-◌, ◌≤◌, ◌≡◌, List, [], ◌++◌, Option, Some, None, true, refl, sym, ap, ◌∙◌, subst, arith, length, take, drop, append-nil}
use Rattle.std.specs.Prelude.{IsSome, option_map}
use Rattle.std.proofs.lemmas.Option.{none-some}
use Rattle.std.specs.Str.{IsUtf8}
use Rattle.std.proofs.lemmas.Str.{IsUtf8-from_ascii}
use Rattle.gv_model.specs.Ty.{spelling}
use Rattle.gv_model.specs.TypeText.{is_type, type_at}
use Rattle.gv_model.specs.Lexing.{type_prefix}
use Rattle.gv_model.proofs.TypeTextLaws.{within_limits, one_reading}
use Rattle.gv_model.proofs.TypeTextParts.{text_of_type, spelling_is_ascii, spelling-type_at}
use Rattle.gv_types.specs.TypePrefix.{BeginsWithType, ReadsType}
use Rattle.gv_types.specs.SingleTuples.{single_tuples}
use Rattle.gv_types.proofs.PrefixTypes.{one_type_prefix}
use Rattle.gv_types.proofs.TypeLists.{read_prefix, read_back}

-- the prefix spells the type at the start of the text, and the rest comes after it
pub record IsSplit (text prefix back : List ℕ) : Type 0 where
  pub utf8 : IsUtf8 prefix
  pub checked : is_type prefix ≡ true
  pub found : Some (type_at prefix) ≡ type_prefix [] text
  pub whole : text ≡ spelling (type_at prefix) ++ back

pub prefix_is_utf8 : (text rest prefix : List ℕ) → BeginsWithType 128 text rest → prefix ≡ take (length text - length rest) text → IsUtf8 prefix
prefix_is_utf8 text rest prefix r f = subst IsUtf8 (sym (f ∙ read_prefix text rest r)) (IsUtf8-from_ascii (spelling r.type) (spelling_is_ascii r.type))

pub split : (text rest prefix back : List ℕ) → BeginsWithType 128 text rest → prefix ≡ take (length text - length rest) text → back ≡ drop (length text - length rest) text → length prefix ≤ 67108864 → IsSplit text prefix back
split text rest prefix back r f b short =
    let spelled : prefix ≡ spelling r.type = f ∙ read_prefix text rest r in
    let fits = within_limits r.type (spelling r.type) r.within (omega (arith, ap length spelled, short)) in
    let is = text_of_type r.type prefix (sym spelled) (within_limits r.type prefix r.within short) in
    record {
      utf8 = prefix_is_utf8 text rest prefix r f;
      checked = is.checked;
      found = ap Some is.type ∙ (sym (one_type_prefix r.type [] (spelling r.type) rest fits refl) ∙ ap (type_prefix []) (sym r.whole));
      whole = r.whole ∙ (ap (λ t. spelling t ++ rest) (sym is.type) ∙ ap (λ x. spelling (type_at prefix) ++ x) (sym (b ∙ read_back text rest r)));
    }

-- what is found is there
pub some_from_map : {X Y : Type 0} (f : X → Y) (o : Option X) (y : Y) → option_map f o ≡ Some y → IsSome o
some_from_map f None y h = absurd (none-some y h)
some_from_map f (Some x) y h = refl

-- what reading a type's own text counts
pub singles_of_read : (w rest : List ℕ) (n : ℕ) → is_type w ≡ true → ReadsType 128 w rest n → n ≤ single_tuples (type_at w)
singles_of_read w rest n e r =
    let same = one_reading (type_at w) r.begins.type [] rest (append-nil (spelling (type_at w)) ∙ ((spelling-type_at w e).0 ∙ r.begins.whole)) in
    omega (arith, r.counted, ap single_tuples same.0)
