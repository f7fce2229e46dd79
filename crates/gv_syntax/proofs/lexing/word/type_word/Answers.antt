use Rattle.std.proofs.Common.{rules, ℕ, ◌≡◌, Bool, true, false, cond, List, [], ◌∷◌, Option, Some, None, refl, sym, ap, ◌∙◌}
use Rattle.std.specs.Prelude.{option_map, find}
use Rattle.std.proofs.lemmas.Iterator.{YieldsList-from_slice}
use Rattle.std.proofs.lemmas.Iterator.Consumers.{YieldsList-from_copied}
use Rattle.std.proofs.lemmas.Iterator.Search.{find_from_yields_List}
use borrow.Author.Tests.{tests}
use Rattle.gv_model.specs.Tokens.{Word}
use Rattle.gv_model.specs.Characters.{same_text}
use Rattle.gv_model.specs.Words.{keyword, word_among}
use Rattle.gv_types.specs.Classes.{basic_of}
use Rattle.gv_types.specs.declared.class.BasicType.{BasicType}
use Rattle.gv_types.specs.declared.class.BasicType.TheVariants as basics
use Rattle.gv_syntax.specs.NumberChars.{named_type}
use Rattle.gv_syntax.proofs.lexing.word.type_word.Goals as goal

abbrev named : List BasicType
named =
    basics.Boolean ∷ basics.Byte ∷ basics.Int16 ∷ basics.Uint16 ∷ basics.Int32 ∷ basics.Uint32
    ∷ basics.Handle ∷ basics.Int64 ∷ basics.Uint64 ∷ basics.Text ∷ basics.ObjectPath ∷ basics.Signature ∷ []

abbrev names : List ℕ → BasicType → Bool
names s k = same_text (keyword (basic_of k)) s

-- the types with their words
abbrev words_of : List BasicType → List (List ℕ × Word)
words_of [] = []
words_of (k ∷ ks) = (keyword (basic_of k), named_type k) ∷ words_of ks

-- the first type that is named so is that of the first word that is so
first_named : (s : List ℕ) (ks : List BasicType) → option_map named_type (find (names s) ks) ≡ word_among (words_of ks) s
unfolding word_among
first_named s [] = refl
first_named s (k ∷ ks) =
    let later = first_named s ks in
    elim (names s k) as (λ b. option_map named_type (cond b (Some k) (find (names s) ks)) ≡ cond b (Some (named_type k)) (word_among (words_of ks) s)) [
      | true ↦ refl
      | false ↦ later
    ]

as_it_is : (o : Option BasicType) → option_map (λ x. x) o ≡ o
as_it_is None = refl
as_it_is (Some k) = refl

pub returns : goal.returns
returns c =
    let found = find_from_yields_List (names c.args.text.now) _ _ c.find.result c.find.ensures.ran (YieldsList-from_copied (YieldsList-from_slice named cc)) (λ x b q k. search (rules, tests)) in
    ap (option_map named_type) (sym (as_it_is c.find.result) ∙ found) ∙ first_named c.args.text.now named
