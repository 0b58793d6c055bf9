-- The rows of metrics, as OpenMetrics has them.
use Rattle.std.specs.Prelude.{ℕ, ◌==◌, List, [], ◌∷◌, ◌++◌, codes, decimal, flat_map, if◌then◌else◌}
use Rattle.chk_world.specs.Books.{End}

-- a byte of a label's value: a backslash and a quote stand behind a backslash, a newline is \n
abbrev pub escaped : ℕ → List ℕ
escaped byte =
    if byte == 92 then 92 ∷ 92 ∷ [] else if byte == 34 then 92 ∷ 34 ∷ []
    else if byte == 10 then 92 ∷ 110 ∷ [] else byte ∷ []

-- a label and its value, in quotes
abbrev pub label : List ℕ → List ℕ → List ℕ
label name value = name ++ (codes "=\"" ++ (flat_map escaped value ++ codes "\""))

-- a row up to its first label
abbrev pub front_by : List ℕ → List ℕ → List ℕ → List ℕ
front_by metric name value = metric ++ (codes "{" ++ label name value)

-- where that is the name of the store
abbrev pub front_of : List ℕ → List ℕ → List ℕ
front_of metric store = front_by metric (codes "store") store

-- a further label
abbrev pub more_of : List ℕ → List ℕ → List ℕ
more_of name value = codes "," ++ label name value

-- the end of a row
abbrev pub tail_of : ℕ → List ℕ
tail_of value = codes "} " ++ (decimal value ++ codes "\n")

-- the row of a store
abbrev pub store_row : List ℕ → List ℕ → ℕ → List ℕ
store_row metric store value = front_of metric store ++ tail_of value

-- the row of a stream
abbrev pub stream_row : List ℕ → List ℕ → End → ℕ → List ℕ
stream_row metric store e value =
    front_of metric store ++ (more_of (codes "source") e.stream.source
    ++ (more_of (codes "type") e.stream.kind ++ (more_of (codes "name") e.stream.name
    ++ tail_of value)))

-- the row of a sink
abbrev pub sink_row : List ℕ → List ℕ → List ℕ → ℕ → List ℕ
sink_row metric store stem value =
    front_of metric store ++ (codes ",sink=\"" ++ (stem ++ (codes "\"" ++ tail_of value)))

-- the row of a stream of an agent: its folder, its source, and the type and name of the stream
abbrev pub log_row : List ℕ → List ℕ → List ℕ → List ℕ → List ℕ → ℕ → List ℕ
log_row metric folder source kind name value =
    front_by metric (codes "agent") folder ++ (more_of (codes "source") source
    ++ (more_of (codes "type") kind ++ (more_of (codes "name") name ++ tail_of value)))

-- a row of two labels
abbrev pub pair_row : List ℕ → List ℕ → List ℕ → List ℕ → List ℕ → ℕ → List ℕ
pair_row metric first folder second name value =
    front_by metric first folder ++ (more_of second name ++ tail_of value)
