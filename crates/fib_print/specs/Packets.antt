-- The lines of packets.
use Rattle.std.specs.Prelude.{ℕ, ◌++◌, List, codes, decimal}
use Rattle.fib_addr.specs.Texts.{address_text}
use Rattle.fib_resolve.specs.declared.types.Tables.{Tables}
use Rattle.fib_core_results.specs.declared.record.Record.{Record}
use Rattle.fib_core_results.specs.declared.record.Version.{Version}
use Rattle.fib_print.specs.Ends.{end_text}

-- settled and applied
unfoldable pub version_text : Version → List ℕ
version_text v = decimal v.settled ++ codes "." ++ decimal v.applied

unfoldable pub window_text : Record → List ℕ
window_text r = version_text r.lo ++ codes "-" ++ version_text r.hi

unfoldable pub flow_text : ℕ → Record → List ℕ
flow_text n r = codes "packet " ++ decimal n ++ codes " " ++ address_text r.addr ++ codes " " ++ decimal r.hash ++ codes " "

-- packet N ADDRESS HASH WINDOW END
unfoldable pub packet_text : Tables → ℕ → Record → List ℕ
packet_text S n r = flow_text n r ++ window_text r ++ codes " " ++ end_text S r.end ++ codes "\n"

unfoldable pub not_ipv4_text : ℕ → List ℕ
not_ipv4_text n = codes "packet " ++ decimal n ++ codes " not ipv4\n"

unfoldable pub bad_header_text : ℕ → List ℕ
bad_header_text n = codes "packet " ++ decimal n ++ codes " bad header\n"

unfoldable pub cut_text : ℕ → List ℕ
cut_text n = codes "capture ends inside packet " ++ decimal n ++ codes "\n"
