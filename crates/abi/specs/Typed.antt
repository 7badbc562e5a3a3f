-- Event data by event type, in the numbers of the library for C. Assumes nothing.
use Rattle.typed_data.specs.Shown.{shown2, shown3}
use Rattle.typed_data.specs.declared.TypedData.{TypedData}
use Rattle.abi.specs.declared.typed.SelTypedData.{SelTypedData}

abbrev pub typed_answer : TypedData → SelTypedData
typed_answer d =
    record {
      offset = d.offset;
      kind2 = (shown2 d.data2).kind;
      value2 = (shown2 d.data2).value;
      kind3 = (shown3 d.data3).kind;
      value3 = (shown3 d.data3).value;
    }
