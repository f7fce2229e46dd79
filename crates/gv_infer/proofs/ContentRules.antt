-- What the functions cite that look at the contents of `<..>`.
use Rattle.gv_infer.proofs.ContentLaws.{none_typed, typed_append, typed_one}
use Rattle.gv_model.proofs.TypeWeights.{list_bytes, tuple_bytes, dictionary_bytes, entry_bytes, box_bytes}

pub ruleset content_rules = (none_typed, typed_append, typed_one, list_bytes, tuple_bytes, dictionary_bytes, entry_bytes, box_bytes)
