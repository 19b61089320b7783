pub mod UntoldDevices
