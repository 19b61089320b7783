pub mod DeviceCalls
