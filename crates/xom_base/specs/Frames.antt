-- What RAM is handed out in.
use Rattle.std.specs.Prelude.{ℕ}

-- how many bytes a frame has
abbrev pub frame_size : ℕ
frame_size = 8192
