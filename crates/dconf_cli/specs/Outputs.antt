-- What a run leaves on out and err.
use Rattle.std.specs.Prelude.{◌≡◌, ◌≢◌, ◌⊎◌, ◌≤◌, ℕ, List, [], Option, take}
use Rattle.dconf_model.specs.Outcomes.{Output}
use Rattle.dconf_streams.specs.declared.counted.Counted.{Counted}
use Rattle.dconf_streams.specs.Counted.{Grew, failures_of}
use Rattle.dconf_streams.specs.Streams.{NoneFailed, one_more}

-- no call of the stream failed
abbrev pub Unfailed : {S : Type 0} → Counted S → Counted S → Type 0
Unfailed old new = NoneFailed (failures_of old) (failures_of new)

-- the writes took a first part of these bytes
abbrev pub GrewByPart : {S : Type 0} → (S → Option (List ℕ)) → Counted S → Counted S → List ℕ → Type 0
GrewByPart contents old new bytes = (n : ℕ) × Grew contents old new (take n bytes)

-- the text is on out, with status 0; or a write failed, with status 1, after a first part. Of no text nothing is written
pub record PrintsText {S : Type 0} (contents : S → Option (List ℕ)) (old new : Counted S) (text : List ℕ) (status : ℕ) : Type 0 where
  pub ends : ((status ≡ 0) × Grew contents old new text × (failures_of new ≡ failures_of old))
      ⊎ ((status ≡ 1) × GrewByPart contents old new text × (failures_of new ≡ one_more (failures_of old)))
  pub nothing : text ≡ [] → (status ≡ 0) × (new ≡ old)

-- the line is on err, or a first part of it where a write failed
pub record PrintsLine {S : Type 0} (contents : S → Option (List ℕ)) (old new : Counted S) (line : List ℕ) : Type 0 where
  pub whole : Unfailed old new → Grew contents old new line
  pub part : GrewByPart contents old new line

-- What a run leaves on out and err, and its status, of the output that it gives. A failed write to err changes no status.
pub record Leaves {O E : Type 0} (contents : O → Option (List ℕ)) (err_contents : E → Option (List ℕ)) (out_old out_new : Counted O)
    (err_old err_new : Counted E) (output : Output) (status : ℕ) : Type 0 where
  -- where no write to out failed
  pub out : Unfailed out_old out_new → Grew contents out_old out_new output.out × (status ≡ output.status)
  pub err : Unfailed out_old out_new → Unfailed err_old err_new → Grew err_contents err_old err_new output.err
  -- where one did
  pub failing : failures_of out_new ≢ failures_of out_old → (status ≡ 1) × (err_new ≡ err_old)
  -- however it went
  pub out_part : GrewByPart contents out_old out_new output.out
  pub err_part : GrewByPart err_contents err_old err_new output.err
  pub refused : output.status ≡ 1 → (status ≡ 1) × (out_new ≡ out_old)
  -- of no text nothing is written to out, so that no failure of it changes the status
  pub silent : output.out ≡ [] → (status ≡ output.status) × (out_new ≡ out_old)
  pub done : status ≡ 0 → (output.status ≡ 0) × (failures_of out_new ≡ failures_of out_old)
  pub within : status ≤ 1
