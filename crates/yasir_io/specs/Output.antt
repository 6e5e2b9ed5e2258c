-- What a sink has got of a text that is written to it.
use Rattle.std.specs.Prelude.{◌≡◌, ℕ, List, ◌++◌, Option}
use Rattle.std.specs.Io.KnownBytes.{append_known}

-- Holds if since `start` the sink has got all of the text except the bytes that wait.
pub record Buffered (start now : Option (List ℕ)) (waits text : List ℕ) : Type 0 where
  pub front : List ℕ
  pub got : now ≡ append_known start front
  pub all : text ≡ front ++ waits

-- Holds if since `start` the sink has got a front of the text.
pub record GotPrefix (start now : Option (List ℕ)) (text : List ℕ) : Type 0 where
  pub front : List ℕ
  pub rest : List ℕ
  pub got : now ≡ append_known start front
  pub all : text ≡ front ++ rest
