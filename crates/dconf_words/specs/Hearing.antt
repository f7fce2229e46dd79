-- What went through a stream.
use Rattle.std.specs.Prelude.{ℕ, List, Option, vec_items}
use Rattle.dconf_words.specs.declared.heard.Heard.{Heard}

abbrev pub heard_of : {S : Type 0} → Heard S → List ℕ
heard_of h = vec_items h.text

abbrev pub stream_of : {S : Type 0} → Heard S → S
stream_of h = h.stream

-- what the stream holds, or has left
abbrev pub passed_on : {S : Type 0} → (S → Option (List ℕ)) → Heard S → Option (List ℕ)
passed_on bytes h = bytes (stream_of h)
