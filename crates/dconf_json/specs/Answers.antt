-- What is answered as JSON of a store.
use Rattle.std.specs.Prelude.{◌≡◌, ℕ, List, Bool, false, Option, if◌then◌else◌, map}
use Rattle.dconf_model.specs.Layers.{Layers, all_paths, child_names, visible_bytes, without_user}
use Rattle.dconf_model.specs.Outcomes.{Gives, UnlessFault, WithStore, done}
use Rattle.dconf_model.specs.Paths.{PathFault, directory_fault, key_fault}
use Rattle.dconf_model.specs.Profiles.{Database}
use Rattle.dconf_model.specs.Reads.{ReadResults}
use Rattle.dconf_model.specs.Walks.{keys_below}
use Rattle.dconf_path.specs.Paths.{directory_text, key_text}
use Rattle.dconf_layers.specs.Children.{shown_at}
use Rattle.dconf_json.specs.Explained.{explanation_tokens, explanations}
use Rattle.dconf_json.specs.Lines.{line, members_tokens, names_tokens}
use Rattle.dconf_json.specs.Values.{value_tokens}
use Rattle.dconf_json.specs.declared.questions.Question.{Question}
use Rattle.dconf_json.specs.declared.questions.Question.TheVariants.{Value, Names, Values, Explained, ExplainedBelow}
use Rattle.dconf_json.specs.declared.questions.Parsed.{Parsed}
use Rattle.dconf_json.specs.declared.questions.Parsed.TheVariants as parsed

-- what is wrong with its path
abbrev pub question_fault : Question → Option PathFault
question_fault (Value default key) = key_fault key.now
question_fault (Names directory) = directory_fault directory.now
question_fault (Values skips directory) = directory_fault directory.now
question_fault (Explained key) = key_fault key.now
question_fault (ExplainedBelow directory) = directory_fault directory.now

-- what is seen at a key, with or without the user's values
abbrev pub value_text : Bool → List ℕ → Layers → List ℕ
value_text default path l = line (value_tokens false (visible_bytes (if default then without_user l else l) path))

-- the names of what a directory has
abbrev pub names_text : List ℕ → Layers → List ℕ
names_text directory l = line (names_tokens (child_names l directory))

-- what is seen at each key below a directory
abbrev pub values_text : Bool → List ℕ → Layers → List ℕ
values_text skips directory l = line (members_tokens skips (map (shown_at l) (keys_below (all_paths l.layers) directory)))

-- the answer, of the databases of a profile and their layers
abbrev pub text_for : Question → List Database → Layers → List ℕ
text_for (Value default key) databases l = value_text default key.now l
text_for (Names directory) databases l = names_text directory.now l
text_for (Values skips directory) databases l = values_text skips directory.now l
text_for (Explained key) databases l = line (explanation_tokens databases l key.now)
text_for (ExplainedBelow directory) databases l = explanations databases l (keys_below (all_paths l.layers) directory.now)

-- The path is looked at, then the files are read, and opened; and then it is answered.
abbrev pub AnswersAsJson : Question → List ℕ → ReadResults → Gives
AnswersAsJson question profile reads =
    UnlessFault (question_fault question) (WithStore reads profile (λ databases l o. o ≡ done (text_for question databases l)))

-- ---- words of private parts

abbrev pub parsed_text : Parsed → List Database → Layers → List ℕ
parsed_text (parsed.Value default key) databases l = value_text default (key_text key) l
parsed_text (parsed.Names directory) databases l = names_text (directory_text directory) l
parsed_text (parsed.Values skips directory) databases l = values_text skips (directory_text directory) l
parsed_text (parsed.Explained key) databases l = line (explanation_tokens databases l (key_text key))
parsed_text (parsed.ExplainedBelow directory) databases l = explanations databases l (keys_below (all_paths l.layers) (directory_text directory))
