mod Parts
mod Sending
