use Rattle.std.proofs.Common.{◌≡◌, ◌++◌, take}
use Rattle.dconf_model.specs.TableBytes.{words_bytes}
use Rattle.gvdb_maps.proofs.database.write_words.Given as goal

abbrev pub invariant-loop-word : goal.invariant-loop-word
invariant-loop-word l = l.out.items ≡ l.fn.out.items ++ words_bytes (take l.word-index l.words)
