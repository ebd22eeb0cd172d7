-- Want of memory as an answer: it may come freely, and stands for nothing else.
use Rattle.std.specs.Prelude.{◌≡◌, ◌⊎◌, Result, Err}

-- the result is the one that was made, or the error that stands for want of memory
abbrev pub OrOut : {A E : Type 0} → E → Result A E → Result A E → Type 0
OrOut none made result = (result ≡ made) ⊎ (result ≡ Err none)
