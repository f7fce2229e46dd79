use Rattle.dconf_model.proofs.SoundLaws.{sound_is_searchable, sound_has_no_fault, one_first_fault}
use Rattle.dconf_model.proofs.one_first_fault.Goals as goal

pub returns : goal.returns
returns c = record { searchable = sound_is_searchable; sound = sound_has_no_fault; one = one_first_fault }
