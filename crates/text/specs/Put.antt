-- A text was put at a place of a buffer: what stood before the place stands, the text follows it, and the place after the text is given back.
use Rattle.std.specs.Prelude.{ℕ, ◌+◌, ◌≡◌, List, ◌++◌, length, take}

pub record Put (before : List ℕ) (at : ℕ) (text : List ℕ) (after : List ℕ) (next : ℕ) : Type 0 where
  pub place : next ≡ at + length text
  pub long : length after ≡ length before
  pub stands : take next after ≡ take at before ++ text
