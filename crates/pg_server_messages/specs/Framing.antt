-- How a message stands in bytes.
use Rattle.std.specs.Prelude.{ℕ, List, length, ◌++◌, decimal, codes}

-- a body behind its header, which says how many bytes the body has
abbrev pub framed : List ℕ → List ℕ
framed body = codes "Content-Length: " ++ (decimal (length body) ++ (codes "\r\n\r\n" ++ body))
