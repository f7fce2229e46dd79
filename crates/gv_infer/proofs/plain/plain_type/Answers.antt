use Rattle.std.proofs.Common.{◌≡◌, ◌∙◌, ap, sym, subst}
use Rattle.gv_model.specs.TypeText.{type_at}
use Rattle.gv_model.specs.Patterns.{all_common, pattern}
use Rattle.gv_model.specs.Patterns.Pattern.{loose}
use Rattle.gv_model.specs.Patterns.Bare.{basics}
use Rattle.gv_model.specs.Patterns.BasicSet.{numbers, texts}
use Rattle.gv_syntax.specs.SyntaxNodes.{nodes_of, syntax_of}
use Rattle.gv_infer.proofs.PlainTypes.{strings_text, chosen_as, truth_choice, integer_choice, string_choice, word_choice, strings_choice}
use Rattle.gv_infer.proofs.plain.plain_type.Goals as goal

pub of_checked-requires : goal.of_checked-requires
of_checked-requires c = strings_text.checked

pub returns-in-Truth : goal.returns-in-Truth
returns-in-Truth c = chosen_as _ _ _ _ (sym c.node.view_is ∙ ap syntax_of c.in-Truth.is) c.basic_type.ensures (truth_choice c.in-Truth.field-0)

pub returns-in-Integer : goal.returns-in-Integer
returns-in-Integer c =
    chosen_as _ _ _ _ (sym c.node.view_is ∙ ap syntax_of c.in-Integer.is) c.basic_type-in-Integer.ensures (integer_choice c.in-Integer.negative c.in-Integer.magnitude)

pub returns-in-Text : goal.returns-in-Text
returns-in-Text c = chosen_as _ _ _ _ (sym c.node.view_is ∙ ap syntax_of c.in-Text.is) c.basic_type-in-Text.ensures (string_choice _)

pub returns-in-Keyword : goal.returns-in-Keyword
returns-in-Keyword c =
    chosen_as _ _ _ _ (sym c.node.view_is ∙ ap syntax_of c.in-Keyword.is) c.basic_type-in-Keyword.ensures
    (word_choice _ _ (sym c.is_number.ensures ∙ c.if-is_number.true) (subst (λ x. pattern x ≡ loose (basics numbers)) c.deref.ensures (c.is_integer.ensures c.if-is_integer.true)))

pub returns-in-Array : goal.returns-in-Array
returns-in-Array c =
    chosen_as _ _ _ _ (sym c.node.view_is ∙ ap syntax_of c.in-Array.is) (ap type_at c.of_checked.ensures ∙ strings_text.type)
    (strings_choice _ (subst (λ l. all_common (nodes_of l) ≡ loose (basics texts)) c.as_slice.ensures.value (c.are_strings.ensures c.if-are_strings.true)))
