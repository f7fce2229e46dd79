use Rattle.std.proofs.Common.{◌++◌, ◌∷◌, ap, ◌∙◌, arith, string_bytes}
use Rattle.std.specs.Prelude.{flat_map}
use Rattle.gv_model.specs.Quoted.{byte_text, between}
use Rattle.gv_text.proofs.Quotes.{quote_low, bytes_whole}
use Rattle.gv_text.proofs.printing.quoted.push_byte_string.Goals as goal

pub push_bytes-requires : goal.push_bytes-requires
push_bytes-requires c = quote_low c.quote_for-quote.result c.args.bytes.now c.quote_for-quote.ensures

pub returns : goal.returns
returns c =
    let q = c.quote_for-quote.result in
    let low = quote_low q c.args.bytes.now c.quote_for-quote.ensures in
    bytes_whole (string_bytes c.args.to.now) (string_bytes c.push.new.self) (string_bytes c.push-2.new.self) (string_bytes c.push_bytes.new.to)
    (string_bytes c.push-3.new.self) (flat_map (byte_text q) c.args.bytes.now) q
    (c.in_ok-push.ensures.bytes ∙ ap (λ l. string_bytes c.args.to.now ++ l) (c.in_ok-push.ensures.ascii (omega arith)))
    (c.in_ok-push-2.ensures.bytes ∙ ap (λ l. string_bytes c.push.new.self ++ l) (c.in_ok-push-2.ensures.ascii low)) c.in_ok-push_bytes.ensures
    (c.in_ok-push-3.ensures.bytes ∙ ap (λ l. string_bytes c.push_bytes.new.to ++ l) (c.in_ok-push-3.ensures.ascii low))
    ∙ ap (λ p. string_bytes c.args.to.now ++ (98 ∷ between p (flat_map (byte_text p) c.args.bytes.now) p)) c.quote_for-quote.ensures
