use Rattle.std.proofs.Common.{ap, subst, get_or}
use Rattle.std.proofs.lemmas.List.{take_rest}
use Rattle.gv_model.specs.Lexing.{token_by}
use Rattle.gv_model.specs.Lexing.Start.{of_string, of_byte_string, of_word, of_number, of_type, of_mark}
use Rattle.gv_syntax.specs.LexSteps.{IsLexed}
use Rattle.gv_syntax.proofs.TokenKinds.{found_by, text_found, byte_string_found, word_found, type_found}
use Rattle.gv_syntax.proofs.lexing.token_at.Goals as goal

pub returns-in-OfText-clause-found : goal.returns-in-OfText-clause-found
returns-in-OfText-clause-found c = λ b bs e.
    let text = c.args.text.now in
    let at = c.args.at in
    let r = c.text_token.result in
    let begins = rw (c.as_bytes-bytes.ensures.value, take_rest text at) at c.in-OfText.ensures.start in
    found_by of_string at b bs r (begins b bs e) (text_found text at b bs r e c.text_token.ensures.found)

pub returns-in-OfByteString-clause-found : goal.returns-in-OfByteString-clause-found
returns-in-OfByteString-clause-found c = λ b bs e.
    let text = c.args.text.now in
    let at = c.args.at in
    let r = c.byte_string_token.result in
    let begins = rw (c.as_bytes-bytes.ensures.value, take_rest text at) at c.in-OfByteString.ensures.start in
    let first = rw (c.as_bytes-bytes.ensures.value, take_rest text at) at c.in-OfByteString.ensures.first in
    let found = rw c.as_bytes-bytes.ensures.value at c.byte_string_token.ensures.found in
    found_by of_byte_string at b bs r (begins b bs e) (byte_string_found text at b bs r e first.0 found)

pub returns-in-OfWord-clause-found : goal.returns-in-OfWord-clause-found
returns-in-OfWord-clause-found c = λ b bs e.
    let text = c.args.text.now in
    let at = c.args.at in
    let r = c.word_token.result in
    let begins = rw (c.as_bytes-bytes.ensures.value, take_rest text at) at c.in-OfWord.ensures.start in
    let first = rw (c.as_bytes-bytes.ensures.value, take_rest text at) at c.in-OfWord.ensures.first in
    let found = rw (c.as_bytes-bytes.ensures.value, take_rest text at) at c.word_token.ensures.found in
    found_by of_word at b bs r (begins b bs e) (word_found _ at b bs r e first found)

pub returns-in-OfNumber-clause-found : goal.returns-in-OfNumber-clause-found
returns-in-OfNumber-clause-found c = λ b bs e.
    let text = c.args.text.now in
    let at = c.args.at in
    let r = c.number_token.result in
    let begins = rw (c.as_bytes-bytes.ensures.value, take_rest text at) at c.in-OfNumber.ensures.start in
    let found = rw (c.as_bytes-bytes.ensures.value, take_rest text at) at c.number_token.ensures.found in
    found_by of_number at b bs r (begins b bs e) (found b bs e)

pub returns-in-OfType-clause-found : goal.returns-in-OfType-clause-found
returns-in-OfType-clause-found c = λ b bs e.
    let text = c.args.text.now in
    let at = c.args.at in
    let r = c.type_token.result in
    let begins = rw (c.as_bytes-bytes.ensures.value, take_rest text at) at c.in-OfType.ensures.start in
    found_by of_type at b bs r (begins b bs e) (type_found text at b bs r e c.type_token.ensures.found)

pub returns-in-OfMark-clause-found : goal.returns-in-OfMark-clause-found
returns-in-OfMark-clause-found c = λ b bs e.
    let text = c.args.text.now in
    let at = c.args.at in
    let r = c.mark_token.result in
    let begins = rw (c.as_bytes-bytes.ensures.value, take_rest text at) at c.in-OfMark.ensures.start in
    let found = rw (c.as_bytes-bytes.ensures.value, take_rest text at) at c.mark_token.ensures.found in
    found_by of_mark at b bs r (begins b bs e) (subst (λ x. IsLexed (token_by of_mark at x bs) r) (ap (λ l. get_or l 0 0) e) (found bs))
