-- What is said of a bad database, after what is wrong with it: what counts of it, or what became of its file.
use Rattle.std.specs.Prelude.{ℕ, zero, suc, Bool, true, false, List, ◌++◌, codes, decimal}
use Rattle.dconfdb_calls.specs.declared.fates.Fate.{Fate}

-- the locks of the first database of a profile never count, whosever it is
abbrev pub counting_locks : Bool → ℕ → ℕ
counting_locks true locks = 0
counting_locks false locks = locks

abbrev pub kept_text : ℕ → ℕ → List ℕ
kept_text keys locks = codes "; kept " ++ (decimal keys ++ (codes " keys, " ++ (decimal locks ++ codes " locks of it")))

abbrev pub counted_text : ℕ → ℕ → List ℕ
counted_text zero zero = codes "; kept nothing of it"
counted_text zero (suc locks) = kept_text 0 (suc locks)
counted_text (suc keys) locks = kept_text (suc keys) locks

-- after the name that the bad file has now
abbrev pub replaced_text : ℕ → List ℕ
replaced_text zero = codes ", and a new file was begun"
replaced_text (suc keys) = codes ", and a new file has the " ++ (decimal (suc keys) ++ codes " keys that could be read")

abbrev pub text_by : Bool → ℕ → ℕ → List ℕ
text_by true keys locks = replaced_text keys
text_by false keys locks = counted_text keys locks

abbrev pub fate_text : Fate → List ℕ
fate_text fate = text_by fate.is_aside fate.keys (counting_locks fate.is_first fate.locks)
