-- A writer, as what its slice holds and where the next byte goes.
use Rattle.std.specs.Prelude.{ℕ, ◌-◌, length}
use Rattle.wire_write.specs.Written.{Page, page}
use Rattle.wire_write.specs.declared.writer.Writer.{Writer}

abbrev pub page_of : Writer → Page
page_of w = page w.to.now w.at

-- how many bytes there is room for
abbrev pub left : Writer → ℕ
left w = length w.to.now - w.at
