-- The flow hash: FNV-1a with 32 bits over the thirteen bytes of a packet's addresses, protocol and ports.
use Rattle.std.specs.Prelude.{ℕ, ◌*◌, ◌%◌, ◌/◌, ◌^◌, ◌++◌, ◌∷◌, [], List, fold, bit_xor}

-- the hash so far is xored with the byte, then multiplied by the prime
abbrev pub fnv_step : ℕ → ℕ → ℕ
fnv_step hash byte = bit_xor hash byte * 16777619 % 2 ^ 32

abbrev pub fnv : List ℕ → ℕ
fnv bytes = fold fnv_step 2166136261 bytes

-- the bytes of 16 and of 32 bits, the highest first
abbrev pub two_bytes : ℕ → List ℕ
two_bytes n = n / 2 ^ 8 % 256 ∷ n % 256 ∷ []

abbrev pub four_bytes : ℕ → List ℕ
four_bytes n = n / 2 ^ 24 % 256 ∷ n / 2 ^ 16 % 256 ∷ n / 2 ^ 8 % 256 ∷ n % 256 ∷ []

-- source, target, protocol, source port, target port
abbrev pub flow_bytes : ℕ → ℕ → ℕ → ℕ → ℕ → List ℕ
flow_bytes source target protocol from_port to_port =
    four_bytes source ++ (four_bytes target ++ (protocol ∷ two_bytes from_port ++ two_bytes to_port))

unfoldable pub flow_hash : ℕ → ℕ → ℕ → ℕ → ℕ → ℕ
flow_hash source target protocol from_port to_port = fnv (flow_bytes source target protocol from_port to_port)
