-- A stored vector: its parts are each below 2 to the power 32, and so many bytes in all.
use Rattle.std.specs.Prelude.{ℕ, ◌+◌, ◌*◌, ◌<◌}
use Rattle.replay.specs.declared.vector.Header.{Header}

pub record Short (h : Header) : Type 0 where
  pub trace : h.trace < 4_294_967_296
  pub done : h.done < 4_294_967_296
  pub cells : h.cells < 4_294_967_296
  pub page : h.page < 4_294_967_296

abbrev pub size_of : Header → ℕ
size_of h = 24 + h.trace + h.done + h.cells * 5 + h.page * 5
