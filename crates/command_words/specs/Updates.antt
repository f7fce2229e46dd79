-- The model's sources of ours.
use Rattle.std.specs.Prelude.{map, string_bytes, vec_items}
use Rattle.dconf_model.specs.Updates.{SourceFolder as Folder}
use Rattle.command_words.specs.declared.sources.SourceFolder.{SourceFolder}

abbrev pub folder_of : SourceFolder → Folder
folder_of f = record {
  name = string_bytes f.name;
  keyfiles = map string_bytes (vec_items f.keyfiles);
  locks = map string_bytes (vec_items f.locks);
}
